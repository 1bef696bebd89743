-- Marks that are a front of others, and the tokens that they leave.
use Rattle.std.proofs.Common.{◌≡◌, ℕ, ◌≤◌, List, [], ◌∷◌, ◌++◌, length, Option, refl, sym, ap, ◌∙◌, subst, inl, inr}
use Rattle.std.proofs.Common.{arith, length-append}
use Rattle.std.specs.Prelude.{◌⊎◌}
use Rattle.std.specs.List.{AllByRecursion}
use Rattle.rt_lemmas.proofs.Lists.{all_front, all_behind}
use Rattle.rt_ids.specs.declared.limit.Limit.{Limit}
use Rattle.rt_lex.specs.Token.{Token}
use Rattle.rt_grammar.specs.Mark.{Mark, Takes, Ends, IsWithin}
use Rattle.rt_grammar.specs.Reach.{Fits}
use Rattle.rt_parse.proofs.Exact.{IsFront, Passes}

pub fits_suffix : (marks : List Mark) (ts rest : List Token) → Fits marks ts rest → (front : List Token)
    × (ts ≡ front ++ rest)
fits_suffix [] ts rest fits = ([], fits)
fits_suffix (Takes t limit ∷ marks) ts rest (behind, e, fits) = let s = fits_suffix marks behind rest fits in
    (t ∷ s.0, e ∙ ap (λ (us : List Token). t ∷ us) s.1)
fits_suffix (Ends compares deep ∷ marks) ts rest (stop, fits) = fits_suffix marks ts rest fits

pub fits_split : (a b : List Mark) (ts rest : List Token) → Fits (a ++ b) ts rest → (middle : List Token)
    × Fits a ts middle × Fits b middle rest
fits_split [] b ts rest fits = (ts, refl, fits)
fits_split (Takes t limit ∷ a) b ts rest (behind, e, fits) = let s = fits_split a b behind rest fits in
    (s.0, (behind, e, s.1), s.2)
fits_split (Ends compares deep ∷ a) b ts rest (stop, fits) = let s = fits_split a b ts rest fits in
    (s.0, (stop, s.1), s.2)

pub fits_same : (marks : List Mark) (ts rest rest' : List Token) → Fits marks ts rest → Fits marks ts rest' → rest
    ≡ rest'
fits_same [] ts rest rest' e f = sym e ∙ f
fits_same (Takes t limit ∷ marks) ts rest rest' (behind, e, fits) (behind', e', fits') =
    let same : behind' ≡ behind = cc in
    fits_same marks behind rest rest' fits (subst (λ (us : List Token). Fits marks us rest') same fits')
fits_same (Ends compares deep ∷ marks) ts rest rest' (stop, fits) (stop', fits') =
    fits_same marks ts rest rest' fits fits'

suffix_shorter : (front rest ts : List Token) → ts ≡ front ++ rest → length rest ≤ length ts
suffix_shorter front rest ts e = let n : length ts ≡ length (front ++ rest) = ap length e in
    let m : length (front ++ rest) ≡ _ = length-append front rest in omega (arith, n, m)

-- the marks after a front start from what it leaves
pub front_fits : (a b : List Mark) (ts left rest : List Token) → IsFront a b → Fits a ts left → Fits b ts rest
    → (more : List Mark) × (b ≡ a ++ more) × Fits more left rest
front_fits a b ts left rest (more, e) fits fits' =
    let s = fits_split a more ts rest (subst (λ (ms : List Mark). Fits ms ts rest) e fits') in
    (more, e, subst (λ (us : List Token). Fits more us rest) (fits_same a ts s.0 left s.1 fits) s.2)

pub front_shorter : (a b : List Mark) (ts left rest : List Token) → IsFront a b → Fits a ts left → Fits b ts rest
    → length rest ≤ length left
front_shorter a b ts left rest front fits fits' =
    let f = front_fits a b ts left rest front fits fits' in
    let s = fits_suffix f.0 left rest f.2 in
    suffix_shorter s.0 rest left s.1

pub within_front : (a b : List Mark) → AllByRecursion IsWithin (a ++ b) → AllByRecursion IsWithin a
within_front a b = all_front IsWithin a b

pub within_behind : (a b : List Mark) → AllByRecursion IsWithin (a ++ b) → AllByRecursion IsWithin b
within_behind a b = all_behind IsWithin a b

passes_none : (mark : Mark) (at : Option ℕ) (what : Limit) → Passes mark at what → IsWithin mark → ⊥
passes_none mark at what (offset, e, f) within = absurd cc

-- marks that pass no limit do not begin with some of which the last passes one
pub within_not : (others : List Mark) (mark : Mark) (at : Option ℕ) (what : Limit) (marks : List Mark)
    → Passes mark at what → IsFront (others ++ mark ∷ []) marks → AllByRecursion IsWithin marks → ⊥
within_not others mark at what marks passes (more, e) within =
    let all : AllByRecursion IsWithin (others ++ mark ∷ []) = within_front (others ++ mark ∷ []) more
    (subst (AllByRecursion IsWithin) e within) in
    passes_none mark at what passes (within_behind others (mark ∷ []) all).0

-- what ends with a mark begins with all of it, or before it
pub last_front : (a b : List Mark) (x : Mark) → IsFront b (a ++ x ∷ []) → (b ≡ a ++ x ∷ []) ⊎ IsFront b a
last_front a [] x front = inr (a, refl)
last_front [] (m ∷ []) x (more, e) = inl cc
last_front [] (m ∷ n ∷ b) x (more, e) = absurd cc
last_front (n ∷ a) (m ∷ b) x (more, e) =
    let same : n ≡ m = cc in
    go (last_front a b x (more, (let tail : a ++ x ∷ [] ≡ b ++ more = cc in tail)))
  where
    go : (b ≡ a ++ x ∷ []) ⊎ IsFront b a → (m ∷ b ≡ n ∷ a ++ x ∷ []) ⊎ IsFront (m ∷ b) (n ∷ a)
    go (inl f) = inl cc
    go (inr (others, f)) = inr (others, cc)

last_same : (a b : List Mark) (x y : Mark) → a ++ x ∷ [] ≡ b ++ y ∷ [] → x ≡ y
last_same [] [] x y e = cc
last_same [] (m ∷ []) x y e = absurd cc
last_same [] (m ∷ n ∷ b) x y e = absurd cc
last_same (m ∷ []) [] x y e = absurd cc
last_same (m ∷ n ∷ a) [] x y e = absurd cc
last_same (m ∷ a) (n ∷ b) x y e = last_same a b x y (let tail : a ++ x ∷ [] ≡ b ++ y ∷ [] = cc in tail)

-- marks that each pass a limit at their last mark, of which one begins the other, are the same
pub limits_same : (a b : List Mark) (x y : Mark) (at : Option ℕ) (what : Limit) → Passes x at what
    → AllByRecursion IsWithin b → IsFront (a ++ x ∷ []) (b ++ y ∷ []) → x ≡ y
limits_same a b x y at what passes within front = go (last_front b (a ++ x ∷ []) y front)
  where
    go : (a ++ x ∷ [] ≡ b ++ y ∷ []) ⊎ IsFront (a ++ x ∷ []) b → x ≡ y
    go (inl e) = last_same a b x y e
    go (inr f) = absurd (within_not a x at what b passes f within)

-- Suffixes of a list that are as long are the same.

pub suffix_same : (a b r s : List Token) → a ++ r ≡ b ++ s → length r ≡ length s → r ≡ s
suffix_same [] [] r s e same = e
suffix_same [] (t ∷ b) r s e same = let n : length r ≡ length (t ∷ b ++ s) = ap length e in
    let m : length (b ++ s) ≡ _ = length-append b s in absurd (omega (arith, n, m, same))
suffix_same (t ∷ a) [] r s e same = let n : length (t ∷ a ++ r) ≡ length s = ap length e in
    let m : length (a ++ r) ≡ _ = length-append a r in absurd (omega (arith, n, m, same))
suffix_same (t ∷ a) (u ∷ b) r s e same = suffix_same a b r s (let tail : a ++ r ≡ b ++ s = cc in tail) same

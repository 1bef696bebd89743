-- A text is read as a language: its tokens up to a rest are in the language, with a meaning of which something holds,
-- and pass no limit.
use Rattle.std.proofs.Common.{◌≡◌, ℕ, suc, Bool, true, List, [], ◌∷◌, ◌++◌, Option, Some, None, refl, sym, subst, inl}
use Rattle.std.proofs.Common.{inr}
use Rattle.std.specs.List.{AllByRecursion}
use Rattle.rt_ids.specs.declared.limit.Limit.{Limit}
use Rattle.rt_lemmas.proofs.Lists.{all_append}
use Rattle.rt_lex.specs.Token.{Token}
use Rattle.rt_lex.specs.Tokens.{tokens_at}
use Rattle.rt_grammar.specs.Mark.{Mark, Takes, Ends, IsWithin}
use Rattle.rt_grammar.specs.Language.{Language, gives, ◌>>=◌, ◌or◌, token, repeat, only_if}
use Rattle.rt_grammar.specs.Reach.{Fits}

-- the text X at this offset, up to the text Y
pub record Read {A : Type 0} (L : Language A) (P : A → Type 0) (X Y : List ℕ) (at : ℕ) : Type 0 where
  pub behind : ℕ
  pub marks : List Mark
  pub meaning : A
  pub means : L marks meaning
  pub holds : P meaning
  pub fits : Fits marks (tokens_at at X) (tokens_at behind Y)
  pub within : AllByRecursion IsWithin marks

abbrev pub Reads : {A : Type 0} → Language A → (A → Type 0) → List ℕ → List ℕ → Type 0
Reads L P X Y = (at : ℕ) → Read L P X Y at

-- whatever it means
abbrev pub Any : {A : Type 0} → A → Type 0
Any x = Unit {0}

fits_append : (m n : List Mark) (ts mid rest : List Token) → Fits m ts mid → Fits n mid rest → Fits (m ++ n) ts rest
fits_append [] n ts mid rest h k = subst (λ (x : List Token). Fits n x rest) (sym h) k
fits_append (Takes t limit ∷ m) n ts mid rest h k = (h.0, h.1, fits_append m n h.0 mid rest h.2 k)
fits_append (Ends compares deep ∷ m) n ts mid rest h k = (h.0, fits_append m n ts mid rest h.1 k)

pub read_gives : {A : Type 0} (P : A → Type 0) (x : A) (X : List ℕ) → P x → Reads (gives x) P X X
read_gives P x X h at = record {
  behind = at;
  marks = [];
  meaning = x;
  means = (refl, refl);
  holds = h;
  fits = refl;
  within = tt;
}

pub read_then : {A B : Type 0} (L : Language A) (next : A → Language B) (P : A → Type 0) (Q : B → Type 0)
    (X Y Z : List ℕ) → Reads L P X Y → ((x : A) → P x → Reads (next x) Q Y Z)
    → Reads (L >>= next) Q X Z
read_then L next P Q X Y Z h k at =
    let r = h at in
    let s = k r.meaning r.holds r.behind in
    record {
      behind = s.behind;
      marks = r.marks ++ s.marks;
      meaning = s.meaning;
      means = (r.meaning, r.marks, s.marks, r.means, s.means, refl);
      holds = s.holds;
      fits = fits_append r.marks s.marks _ _ _ r.fits s.fits;
      within = all_append IsWithin r.marks s.marks r.within s.within;
    }

-- a weaker language, and a weaker meaning
pub read_as : {A : Type 0} (L M : Language A) (P Q : A → Type 0) (X Y : List ℕ)
    → ((marks : List Mark) (x : A) → L marks x → M marks x) → ((x : A) → P x → Q x) → Reads L P X Y → Reads M Q X Y
read_as L M P Q X Y f g h at =
    let r = h at in
    record {
      behind = r.behind;
      marks = r.marks;
      meaning = r.meaning;
      means = f r.marks r.meaning r.means;
      holds =
          g r.meaning r.holds;
      fits = r.fits;
      within = r.within;
    }

pub read_holds : {A : Type 0} (L : Language A) (P Q : A → Type 0) (X Y : List ℕ) → ((x : A) → P x → Q x) → Reads L P X Y
    → Reads L Q X Y
read_holds L P Q X Y g h = read_as L L P Q X Y (λ marks x m. m) g h

pub read_left : {A : Type 0} (L M : Language A) (P : A → Type 0) (X Y : List ℕ) → Reads L P X Y → Reads (L or M) P X Y
read_left L M P X Y h = read_as L (L or M) P P X Y (λ marks x m. inl m) (λ x p. p) h

pub read_right : {A : Type 0} (L M : Language A) (P : A → Type 0) (X Y : List ℕ) → Reads M P X Y → Reads (L or M) P X Y
read_right L M P X Y h = read_as M (L or M) P P X Y (λ marks x m. inr m) (λ x p. p) h

-- no more steps
pub read_none : {S : Type 0} (step : S → Language S) (P : S → Type 0) (s : S) (X : List ℕ) → P s
    → Reads (repeat step s) P X X
read_none step P s X h at = record {
  behind = at;
  marks = [];
  meaning = s;
  means = (0, (refl, refl));
  holds = h;
  fits =
      refl;
  within = tt;
}

-- one more step
pub read_step : {S : Type 0} (step : S → Language S) (P Q : S → Type 0) (s : S) (X Y Z : List ℕ) → Reads (step s) P X Y
    → ((t : S) → P t → Reads (repeat step t) Q Y Z) → Reads (repeat step s) Q X Z
read_step step P Q s X Y Z h k =
    read_as (step s >>= repeat step) (repeat step s) Q Q X Z
    (λ marks x m. (suc m.4.0, (m.0, m.1, m.2, m.3, m.4.1, m.5)))
    (λ x q. q) (read_then (step s) (repeat step) P Q X Y Z h k)

is_within : (t : Token) (limit : Option Limit) → limit ≡ None → IsWithin (Takes t limit)
is_within t limit e = subst (λ (l : Option Limit). IsWithin (Takes t l)) (sym e) refl

-- one token
pub read_token : {A : Type 0} (meaning : Token → Option A) (limit : A → Option Limit) (P : A → Type 0) (X Y : List ℕ)
    (at behind : ℕ) (t : Token) (x : A)
    → meaning t ≡ Some x → limit x ≡ None → P x → tokens_at at X ≡ t ∷ tokens_at behind Y
    → Read (token meaning limit) P X Y at
read_token {A} meaning limit P X Y at behind t x e free h here =
    record {
      behind = behind;
      marks = Takes t (limit x) ∷ [];
      meaning = x;
      means = (t, e, refl);
      holds = h;
      fits = (tokens_at behind Y, here, refl);
      within = (is_within t (limit x) free, tt);
    }

-- a blank in front of it
pub read_space : {A : Type 0} (L : Language A) (P : A → Type 0) (X Y : List ℕ) → Reads L P X Y → Reads L P (32 ∷ X) Y
read_space L P X Y h at =
    let r = h (suc at) in
    record {
      behind = r.behind;
      marks = r.marks;
      meaning = r.meaning;
      means = r.means;
      holds = r.holds;
      fits = r.fits;
      within = r.within;
    }

pub read_newline : {A : Type 0} (L : Language A) (P : A → Type 0) (X Y : List ℕ) → Reads L P X Y → Reads L P (10 ∷ X) Y
read_newline L P X Y h at =
    let r = h (suc at) in
    record {
      behind = r.behind;
      marks = r.marks;
      meaning = r.meaning;
      means = r.means;
      holds = r.holds;
      fits = r.fits;
      within = r.within;
    }

-- spaces alone
abbrev pub IsMargin : List ℕ → Type 0
IsMargin [] = Unit {0}
IsMargin (b ∷ margin) = (32 ≡ b) × IsMargin margin

pub read_margin : {A : Type 0} (L : Language A) (P : A → Type 0) (margin X Y : List ℕ) → IsMargin margin → Reads L P X Y
    → Reads L P (margin ++ X) Y
read_margin L P [] X Y m h = h
read_margin L P (b ∷ margin) X Y m h =
    subst (λ (c : ℕ). Reads L P (c ∷ (margin ++ X)) Y) m.0
    (read_space L P (margin ++ X) Y (read_margin L P margin X Y m.1 h))

-- the same text, written otherwise
pub read_same : {A : Type 0} (L : Language A) (P : A → Type 0) (X X' Y : List ℕ) → X' ≡ X → Reads L P X Y
    → Reads L P X' Y
read_same L P X X' Y e h = subst (λ (x : List ℕ). Reads L P x Y) (sym e) h

-- a line feed after it
pub read_trail : {A : Type 0} (L : Language A) (P : A → Type 0) (X Y : List ℕ) → Reads L P X (10 ∷ Y) → Reads L P X Y
read_trail L P X Y h at =
    let r = h at in
    record {
      behind = suc r.behind;
      marks = r.marks;
      meaning = r.meaning;
      means = r.means;
      holds = r.holds;
      fits =
          r.fits;
      within = r.within;
    }

-- a form that comes here
pub read_only_if : {A : Type 0} (here : Bool) (L : Language A) (P : A → Type 0) (X Y : List ℕ) → here ≡ true
    → Reads L P X Y → Reads (only_if here L) P X Y
read_only_if here L P X Y e h = read_as L (only_if here L) P P X Y (λ marks x m. (e, m)) (λ x p. p) h

-- How an outcome for one language gives one for another.
use Rattle.std.proofs.Common.{◌≡◌, ℕ, List, [], ◌∷◌, ◌++◌, Option, Result, Ok, Err, refl, sym, ap, subst, inl, inr}
use Rattle.std.specs.Prelude.{◌⊎◌}
use Rattle.rt_ids.specs.declared.limit.Limit.{Limit}
use Rattle.rt_ids.specs.declared.refusal.Refusal.TheVariants as refusal
use Rattle.rt_lex.specs.Token.{Token}
use Rattle.rt_grammar.specs.Mark.{Mark, IsWithin}
use Rattle.rt_grammar.specs.Language.{Language}
use Rattle.rt_grammar.specs.Reach.{Fits, Reaches}
use Rattle.rt_parse.specs.Inside.Reading.{fault_found_at}
use Rattle.rt_parse.specs.declared.stop.Found.{Found}
use Rattle.rt_parse.proofs.Exact.{IsFront, Passes, Outcome, IsInhabited}

-- no text of the language begins with the tokens' first, and none is empty where they are
pub record IsBlocked {B : Type 0} (language : Language B) (tokens : List Token) : Type 0 where
  pub out : (m : Mark) (marks : List Mark) (y : B) (front : List Mark) (rest : List Token) → language (m ∷ marks) y
      → Fits (m ∷ front) tokens rest → ⊥
  pub some : (y : B) → language [] y → tokens ≡ [] → ⊥

blocked_front : {B : Type 0} {language : Language B} {tokens : List Token} → IsBlocked language tokens
    → (others : List Mark) (left : List Token) (marks : List Mark) → Reaches language tokens others left
    → IsFront others marks
blocked_front b [] left marks reach = (marks, refl)
blocked_front b (m ∷ others) left marks reach =
    absurd (b.out m (others ++ reach.begins.0) reach.begins.1 others left reach.begins.2 reach.fits)

blocked_none : {B : Type 0} {language : Language B} {tokens : List Token} → IsBlocked language tokens
    → (others : List Mark) (y : B) → language others y → Fits others tokens [] → ⊥
blocked_none b [] y l fits = b.some y l fits
blocked_none b (m ∷ others) y l fits = b.out m others y others [] l fits

pub outcome_blocked : {B : Type 0} (language : Language B) (tokens : List Token) → IsBlocked language tokens
    → IsInhabited language → Outcome language tokens (Err (fault_found_at tokens))
outcome_blocked language tokens b some = inl (record {
  marks = [];
  rest = tokens;
  reached = record { begins = some; fits = refl };
  within = tt;
  most = λ others left reach. blocked_front b others left [] reach;
  none = blocked_none b;
  is = refl;
})

-- A wider language has the same outcome, where the rest of it is blocked.
module _ {B : Type 0} (K M N : Language B) (tokens : List Token)
    (into : (marks : List Mark) (y : B) → K marks y → M marks y)
    (out : (marks : List Mark) (y : B) → M marks y → K marks y ⊎ N marks y) (blocked : IsBlocked N tokens) where
  wider_reaches : (marks : List Mark) (rest : List Token) → Reaches K tokens marks rest → Reaches M tokens marks rest
  wider_reaches marks rest r = record { begins = (r.begins.0, r.begins.1, into _ _ r.begins.2); fits = r.fits }

  wider_front : (P : Type 0) (others : List Mark) (left : List Token) (marks : List Mark)
      → (Reaches K tokens others left → P) → (IsFront others marks → P) → Reaches M tokens others left → P
  wider_front P others left marks of_k of_front r = go (out _ _ r.begins.2)
    where
      go : K (others ++ r.begins.0) r.begins.1 ⊎ N (others ++ r.begins.0) r.begins.1 → P
      go (inl k) = of_k (record { begins = (r.begins.0, r.begins.1, k); fits = r.fits })
      go (inr n) = of_front (blocked_front blocked others left marks
          (record { begins = (r.begins.0, r.begins.1, n); fits = r.fits }))

  wider_only : (P : Type 0) (others : List Mark) (y : B) → Fits others tokens [] → (K others y → P) → M others y → P
  wider_only P others y fits of_k m = go (out _ _ m)
    where
      go : K others y ⊎ N others y → P
      go (inl k) = of_k k
      go (inr n) = absurd (blocked_none blocked others y n fits)

  pub outcome_wider : (read : Result B Found) → Outcome K tokens read → Outcome M tokens read
  outcome_wider (Ok meaning) o = record {
    marks = o.marks;
    means = into _ _ o.means;
    fits = o.fits;
    within = o.within;
    most = λ others left r. wider_front (IsFront others o.marks) others left o.marks (o.most others left) (λ f. f) r;
    only = λ others other m fits. wider_only ((others ≡ o.marks) × (other ≡ meaning)) others other fits
        (λ k. o.only others other k fits) m;
  }
  outcome_wider (Err found) (inl o) = inl (record {
    marks = o.marks;
    rest = o.rest;
    reached = wider_reaches _ _ o.reached;
    within = o.within;
    most = λ others left r. wider_front (IsFront others o.marks) others left o.marks (o.most others left) (λ f. f) r;
    none = λ others other m fits. wider_only ⊥ others other fits (λ k. o.none others other k fits) m;
    is = o.is;
  })
  outcome_wider (Err found) (inr (what, e, o)) = inr (
    what,
    e,
    record {
      marks = o.marks;
      mark = o.mark;
      rest = o.rest;
      reached = wider_reaches _ _ o.reached;
      within = o.within;
      passes = o.passes;
      most = λ others left r. wider_front (IsFront others (o.marks ++ o.mark ∷ [])
          ⊎ IsFront (o.marks ++ o.mark ∷ []) others) others left (o.marks ++ o.mark ∷ []) (o.most others left)
          (λ f. inl f) r;
      only = λ others other m fits. wider_only (IsFront (o.marks ++ o.mark ∷ []) others) others other fits
          (λ k. o.only others other k fits) m;
    },
  )

-- Tokens begin with a mark, after which the language goes on as another.
pub record IsMarked {B : Type 0} (L K : Language B) (mark : Mark) (tokens behind : List Token) : Type 0 where
  pub into : (marks : List Mark) (y : B) → K marks y → L (mark ∷ marks) y
  pub fits : (marks : List Mark) (rest : List Token) → Fits marks behind rest → Fits (mark ∷ marks) tokens rest
  pub out : (m : Mark) (marks : List Mark) (y : B) (front : List Mark) (rest : List Token) → L (m ∷ marks) y
      → Fits (m ∷ front) tokens rest
      → (m ≡ mark) × K marks y × Fits front behind rest
  pub some : (y : B) → L [] y → ⊥

module _ {B : Type 0} (L K : Language B) (mark : Mark) (tokens behind : List Token)
    (marked : IsMarked L K mark tokens behind) where
  marked_reaches : (marks : List Mark) (rest : List Token) → Reaches K behind marks rest
      → Reaches L tokens (mark ∷ marks) rest
  marked_reaches marks rest r = record {
    begins = (r.begins.0, r.begins.1, marked.into _ _ r.begins.2);
    fits =
        marked.fits _ _ r.fits;
  }

  IsFront-cons : (m : Mark) (others marks : List Mark) → m ≡ mark → IsFront others marks
      → IsFront (m ∷ others) (mark ∷ marks)
  IsFront-cons m others marks e (more, f) = (more, cc)

  IsFront-cons' : (m : Mark) (others marks : List Mark) → m ≡ mark → IsFront marks others
      → IsFront (mark ∷ marks) (m ∷ others)
  IsFront-cons' m others marks e (more, f) = (more, cc)

  marked_front : (marks : List Mark) → ((others : List Mark) (left : List Token) → Reaches K behind others left
      → IsFront others marks)
      → (others : List Mark) (left : List Token) → Reaches L tokens others left → IsFront others (mark ∷ marks)
  marked_front marks most [] left r = (mark ∷ marks, refl)
  marked_front marks most (m ∷ others) left r =
      let o : (m ≡ mark) × K (others ++ r.begins.0) r.begins.1 × Fits others behind left =
      marked.out m (others ++ r.begins.0) r.begins.1 others left r.begins.2 r.fits in
      IsFront-cons m others marks o.0 (most others left (record { begins = (r.begins.0, r.begins.1, o.1); fits = o.2 }))

  marked_fronts : (marks : List Mark) → ((others : List Mark) (left : List Token) → Reaches K behind others left
      → IsFront others marks ⊎ IsFront marks others)
      → (others : List Mark) (left : List Token) → Reaches L tokens others left → IsFront others (mark ∷ marks)
      ⊎ IsFront (mark ∷ marks) others
  marked_fronts marks most [] left r = inl (mark ∷ marks, refl)
  marked_fronts marks most (m ∷ others) left r =
      let o : (m ≡ mark) × K (others ++ r.begins.0) r.begins.1 × Fits others behind left =
      marked.out m (others ++ r.begins.0) r.begins.1 others left r.begins.2 r.fits in
      go o.0 (most others left (record { begins = (r.begins.0, r.begins.1, o.1); fits = o.2 }))
    where
      go : m ≡ mark → IsFront others marks ⊎ IsFront marks others → IsFront (m ∷ others) (mark ∷ marks)
          ⊎ IsFront (mark ∷ marks) (m ∷ others)
      go e (inl f) = inl (IsFront-cons m others marks e f)
      go e (inr f) = inr (IsFront-cons' m others marks e f)

  marked_only : (P : List Mark → B → Type 0) (Q : List Mark → B → Type 0)
      → ((others : List Mark) (y : B) → K others y → Fits others behind [] → P others y)
      → ((others : List Mark) (y : B) → P others y → Q (mark ∷ others) y) → (others : List Mark) (y : B) → L others y
      → Fits others tokens [] → Q others y
  marked_only P Q only step [] y l fits = absurd (marked.some y l)
  marked_only P Q only step (m ∷ others) y l fits =
      let o : (m ≡ mark) × K others y × Fits others behind [] = marked.out m others y others [] l fits in
      subst (λ (n : Mark). Q (n ∷ others) y) (sym o.0) (step others y (only others y o.1 o.2))

  pub outcome_marked : IsWithin mark → (read : Result B Found) → Outcome K behind read → Outcome L tokens read
  outcome_marked within (Ok meaning) o = record {
    marks = mark ∷ o.marks;
    means = marked.into _ _ o.means;
    fits = marked.fits _ _ o.fits;
    within = (within, o.within);
    most = marked_front o.marks o.most;
    only = marked_only (λ others other. (others ≡ o.marks) × (other ≡ meaning))
        (λ others other. (others ≡ mark ∷ o.marks) × (other ≡ meaning)) o.only
        (λ others other p. (ap (λ (ms : List Mark). mark ∷ ms) p.0, p.1));
  }
  outcome_marked within (Err found) (inl o) = inl (record {
    marks = mark ∷ o.marks;
    rest = o.rest;
    reached = marked_reaches _ _ o.reached;
    within = (within, o.within);
    most = marked_front o.marks o.most;
    none = marked_only (λ others other. ⊥) (λ others other. ⊥) o.none (λ others other p. p);
    is = o.is;
  })
  outcome_marked within (Err found) (inr (what, e, o)) = inr (
    what,
    e,
    record {
      marks = mark ∷ o.marks;
      mark = o.mark;
      rest = o.rest;
      reached = marked_reaches _ _ o.reached;
      within = (within, o.within);
      passes = o.passes;
      most = marked_fronts (o.marks ++ o.mark ∷ []) o.most;
      only = marked_only (λ others other. IsFront (o.marks ++ o.mark ∷ []) others)
          (λ others other. IsFront (mark ∷ o.marks ++ o.mark ∷ []) others) o.only
          (λ others other p. IsFront-cons' mark others (o.marks ++ o.mark ∷ []) refl p);
    },
  )

  -- the mark passes a limit
  pub outcome_limited : (at : Option ℕ) (what : Limit) → Passes mark at what → IsInhabited K
      → Outcome L tokens (Err (record { at = at; refusal = refusal.Limit what }))
  outcome_limited at what passes (marks, y, k) = inr (
    what,
    refl,
    record {
      marks = [];
      mark = mark;
      rest = behind;
      reached = record { begins = (marks, y, marked.into marks y k); fits = marked.fits [] behind refl };
      within = tt;
      passes = passes;
      most = elim [
        | [] ↦ λ left r. inl (mark ∷ [], refl)
        | m ∷ others ↦
            λ left r. inr (
              others,
              ap (λ (n : Mark). n ∷ others)
                  (marked.out m (others ++ r.begins.0) r.begins.1 others left r.begins.2 r.fits).0,
            )
      ];
      only = elim [
        | [] ↦ λ other l fits. absurd (marked.some other l)
        | m ∷ others ↦
            λ other l fits. (others, ap (λ (n : Mark). n ∷ others) (marked.out m others other others [] l fits).0)
      ];
    },
  )

-- Readers of one token, of nothing, and of one form after another.
use Rattle.std.proofs.Common.{◌≡◌, ℕ, suc, ◌≤◌, Bool, false, List, [], ◌∷◌, ◌++◌, length, Option, Some, None, Result}
use Rattle.std.proofs.Common.{Ok, refl, sym, ap, ◌∙◌, subst, arith}
use Rattle.rt_ids.specs.declared.limit.Limit.{Limit}
use Rattle.rt_lex.specs.Token.{Token}
use Rattle.rt_grammar.specs.Mark.{Mark, Takes, Ends}
use Rattle.rt_grammar.specs.Language.{Language, gives, ◌>>=◌, token}
use Rattle.rt_grammar.specs.Reach.{Fits}
use Rattle.rt_parse.specs.Inside.Reading as reading
use Rattle.rt_parse.specs.Inside.Reading.{token_at, take_meaning, unless_limited, begins_with}
use Rattle.rt_parse.specs.declared.stop.Found.{Found}
use Rattle.rt_parse.proofs.Exact.{Outcome, IsExact, IsInhabited, Avoids, ReadsAfter, nothing}
use Rattle.rt_parse.proofs.ExactOutcome.{IsBlocked, IsMarked, outcome_blocked, outcome_marked, outcome_limited}
use Rattle.rt_parse.proofs.ExactLaws.{same_outcome, gives_then, gives_then'}

pub begins_with-none : (tokens : List Token) → begins_with (λ t. false) tokens ≡ false
begins_with-none [] = refl
begins_with-none (t ∷ tokens) = refl

pub begins_with-nothing : {A : Type 0} (x : A) (tokens : List Token) → begins_with (nothing x) tokens ≡ false
begins_with-nothing x [] = refl
begins_with-nothing x (t ∷ tokens) = refl

pub Avoids-nothing : {A B : Type 0} (x : A) (language : Language B) → Avoids (nothing x) language
Avoids-nothing x language [] y l = tt
Avoids-nothing x language (Takes t limit ∷ marks) y l = refl
Avoids-nothing x language (Ends compares deep ∷ marks) y l = λ t e. absurd cc

-- what a text that begins with one token has
pub record IsBehindToken {A B : Type 0} (meaning : Token → Option A) (limit : A → Option Limit) (K : A → Language B)
    (marks : List Mark) (y : B) : Type 0 where
  pub t : Token
  pub x : A
  pub back : List Mark
  pub means : meaning t ≡ Some x
  pub is : marks ≡ Takes t (limit x) ∷ back
  pub behind : K x back y

pub behind_token : {A B : Type 0} (meaning : Token → Option A) (limit : A → Option Limit) (K : A → Language B)
    (marks : List Mark) (y : B)
    → (token meaning limit >>= K) marks y → IsBehindToken meaning limit K marks y
behind_token meaning limit K marks y (x, front, back, (t, em, ef), k, e) =
    record { t = t; x = x; back = back; means = em; is = e ∙ ap (λ (ms : List Mark). ms ++ back) ef; behind = k }

module _ {A B : Type 0} (meaning : Token → Option A) (limit : A → Option Limit) (K : A → Language B) where
  pub token_marked : (t : Token) (tokens : List Token) (x : A) (l : Option Limit) → meaning t ≡ Some x → limit x ≡ l
      → IsMarked (token meaning limit >>= K) (K x) (Takes t l) (t ∷ tokens) tokens
  token_marked t tokens x l em el = record {
    into = λ marks y k. (
      x,
      Takes t l ∷ [],
      marks,
      (t, em, ap (λ (o : Option Limit). Takes t o ∷ []) (sym el)),
      k,
      refl,
    );
    fits = λ marks rest fits. (tokens, refl, fits);
    out = λ m marks y front rest l fits. go m marks y front rest (behind_token meaning limit K (m ∷ marks) y l) fits;
    some = λ y l. let b : IsBehindToken meaning limit K [] y = behind_token meaning limit K [] y l in
        let e : [] ≡ Takes b.t (limit b.x) ∷ b.back = b.is in absurd cc;
  }
    where
      go : (m : Mark) (marks : List Mark) (y : B) (front : List Mark) (rest : List Token)
          → IsBehindToken meaning limit K (m ∷ marks) y → Fits (m ∷ front) (t ∷ tokens) rest
          → (m ≡ Takes t l) × K x marks y × Fits front tokens rest
      go m marks y front rest b fits =
          let e : m ∷ marks ≡ Takes b.t (limit b.x) ∷ b.back = b.is in
          let em' : m ≡ Takes b.t (limit b.x) = cc in
          let eb : b.back ≡ marks = cc in
          let f : (behind : List Token) × (t ∷ tokens ≡ b.t ∷ behind) × Fits front behind rest =
          subst (λ (n : Mark). Fits (n ∷ front) (t ∷ tokens) rest) em' fits in
          let ef : t ∷ tokens ≡ b.t ∷ f.0 = f.1 in
          let et : b.t ≡ t = cc in
          let er : f.0 ≡ tokens = cc in
          let eo : meaning b.t ≡ Some b.x = b.means in
          let ex : b.x ≡ x = cc in (
            cc,
            subst (λ (ms : List Mark). K x ms y) eb (subst (λ (z : A). K z b.back y) ex b.behind),
            subst (λ (ts : List Token). Fits front ts rest) er f.2,
          )

  pub token_blocked : (tokens : List Token) → ((t : Token) (behind : List Token) (x : A) → tokens ≡ t ∷ behind
      → meaning t ≡ Some x → ⊥) → IsBlocked (token meaning limit >>= K) tokens
  token_blocked tokens none = record {
    out = λ m marks y front rest l fits. go m marks y front rest (behind_token meaning limit K (m ∷ marks) y l) fits;
    some = λ y l e. let b : IsBehindToken meaning limit K [] y = behind_token meaning limit K [] y l in
        let e : [] ≡ Takes b.t (limit b.x) ∷ b.back = b.is in absurd cc;
  }
    where
      go : (m : Mark) (marks : List Mark) (y : B) (front : List Mark) (rest : List Token)
          → IsBehindToken meaning limit K (m ∷ marks) y → Fits (m ∷ front) tokens rest → ⊥
      go m marks y front rest b fits =
          let e : m ∷ marks ≡ Takes b.t (limit b.x) ∷ b.back = b.is in
          let em' : m ≡ Takes b.t (limit b.x) = cc in
          let f : (behind : List Token) × (tokens ≡ b.t ∷ behind) × Fits front behind rest =
          subst (λ (n : Mark). Fits (n ∷ front) tokens rest) em' fits in
          none b.t f.0 b.x f.1 b.means

  module _ (read : A → List Token → Result B Found) (most : ℕ) (some : (x : A) → IsInhabited (K x))
      (exact : (x : A) → IsExact (K x) (read x) most) where
    outcome_token : (t : Token) (tokens : List Token) (x : A) → meaning t ≡ Some x → length tokens ≤ most
        → (l : Option Limit) → limit x ≡ l
        → Outcome (token meaning limit >>= K) (t ∷ tokens)
        (reading.◌>>=◌ (unless_limited t.at l x tokens) (λ got. read got.0 got.1))
    outcome_token t tokens x em le None el = outcome_marked _ _ _ _ _ (token_marked t tokens x None em el) refl
        (read x tokens) (exact x tokens le)
    outcome_token t tokens x em le (Some what) el = outcome_limited _ _ _ _ _
        (token_marked t tokens x (Some what) em el) (Some t.at) what (t.at, refl, refl) (some x)

    outcome_meaning : IsInhabited (token meaning limit >>= K) → (t : Token) (tokens : List Token) → length tokens ≤ most
        → (o : Option A) → meaning t ≡ o
        → Outcome (token meaning limit >>= K) (t ∷ tokens)
        (reading.◌>>=◌ (take_meaning o limit t tokens) (λ got. read got.0 got.1))
    outcome_meaning any t tokens le None em =
        outcome_blocked _ (t ∷ tokens) (token_blocked (t ∷ tokens) (λ u behind x e eu. let et : u ≡ t = cc in cc)) any
    outcome_meaning any t tokens le (Some x) em = outcome_token t tokens x em le (limit x) refl

    pub exact_token : IsInhabited (token meaning limit >>= K) → IsExact (token meaning limit >>= K)
        (λ tokens. reading.◌>>=◌ (token_at meaning limit tokens) (λ got. read got.0 got.1)) (suc most)
    unfolding token_at
    exact_token any [] le = outcome_blocked _ [] (token_blocked [] (λ u behind x e eu. cc)) any
    exact_token any (t ∷ tokens) le = outcome_meaning any t tokens (omega arith) (meaning t) refl

pub reads_token : {A B : Type 0} {before : Token → Bool} {meaning : Token → Option A} {limit : A → Option Limit}
    → ((t : Token) × (x : A) × (meaning t ≡ Some x))
    → ReadsAfter B before nothing nothing suc (λ x. x) (token meaning limit) (token_at meaning limit)
reads_token {meaning = meaning} {limit = limit} (t, x, e) = record {
  exact = λ behind read most some avoids exact tokens le stop.
      exact_token meaning limit behind read most some
      (λ y tokens le. exact y tokens le (begins_with-nothing y tokens)) (
        Takes t (limit x) ∷ (some x).0,
        (some x).1,
        (
          x,
          Takes t (limit x) ∷ [],
          (some x).0,
          (t, e, refl),
          (some x).2,
          refl,
        ),
      ) tokens le;
}

pub reads_gives : {A B C : Type 0} {before : Token → Bool} {goes : A → Token → Bool} {value : A → C} (x : A)
    → ReadsAfter B before goes (λ y. before) (λ n. n) value (gives x) (λ tokens. Ok (value x, tokens))
reads_gives {value = value} x = record {
  exact = λ behind read most some avoids exact tokens le stop.
      same_outcome (behind x) (gives x >>= behind) tokens (read (value x) tokens) (gives_then x behind)
      (gives_then' x behind) (exact x tokens le stop);
}

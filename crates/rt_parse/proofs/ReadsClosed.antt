-- The reader of a token that always passes a limit, after which nothing is read.
use Rattle.std.proofs.Common.{◌≡◌, ℕ, List, [], ◌∷◌, Option, Some, None, Result, refl, sym}
use Rattle.std.specs.Prelude.{Bool}
use Rattle.rt_ids.specs.declared.limit.Limit.{Limit}
use Rattle.rt_lex.specs.Token.{Token}
use Rattle.rt_grammar.specs.Language.{Language, ◌>>=◌, token}
use Rattle.rt_parse.specs.Inside.Reading as reading
use Rattle.rt_parse.specs.Inside.Reading.{Reader, token_at, take_meaning, unless_limited}
use Rattle.rt_parse.specs.declared.stop.Found.{Found}
use Rattle.rt_parse.proofs.Exact.{Outcome, IsInhabited, ReadsAfter}
use Rattle.rt_parse.proofs.ExactOutcome.{outcome_blocked, outcome_limited}
use Rattle.rt_parse.proofs.ExactLaws.{then_then, then_then', read_then}
use Rattle.rt_parse.proofs.ExactToken.{token_marked, token_blocked}
use Rattle.rt_parse.proofs.ExactThen.{moved, some_then}
use Rattle.rt_parse.proofs.ExactStarts.{some_token}

-- each meaning passes a limit
abbrev pub IsAlways : {A : Type 0} → (A → Option Limit) → Type 0
IsAlways {A} limit = (x : A) → (what : Limit) × (limit x ≡ Some what)

module _ {A B : Type 0} (meaning : Token → Option A) (limit : A → Option Limit) (K : A → Language B)
    (read : A → List Token → Result B Found)
    (some : (x : A) → IsInhabited (K x)) (always : IsAlways limit) (any : IsInhabited (token meaning limit >>= K)) where
  closed_token : (t : Token) (tokens : List Token) (x : A) → meaning t ≡ Some x → (l : Option Limit) → limit x ≡ l
      → Outcome (token meaning limit >>= K) (t ∷ tokens)
      (reading.◌>>=◌ (unless_limited t.at l x tokens) (λ got. read got.0 got.1))
  closed_token t tokens x em None el = let e : limit x ≡ Some (always x).0 = (always x).1 in absurd cc
  closed_token t tokens x em (Some what) el = outcome_limited _ _ _ _ _
      (token_marked meaning limit K t tokens x (Some what) em el) (Some t.at) what (t.at, refl, refl) (some x)

  closed_meaning : (t : Token) (tokens : List Token) (o : Option A) → meaning t ≡ o
      → Outcome (token meaning limit >>= K) (t ∷ tokens)
      (reading.◌>>=◌ (take_meaning o limit t tokens) (λ got. read got.0 got.1))
  closed_meaning t tokens None em =
      outcome_blocked _ (t ∷ tokens) (token_blocked meaning limit K (t ∷ tokens)
      (λ u behind x e eu. let et : u ≡ t = cc in cc)) any
  closed_meaning t tokens (Some x) em = closed_token t tokens x em (limit x) refl

  closed_outcome : (tokens : List Token) → Outcome (token meaning limit >>= K) tokens
      (reading.◌>>=◌ (token_at meaning limit tokens) (λ got. read got.0 got.1))
  unfolding token_at
  closed_outcome [] = outcome_blocked _ [] (token_blocked meaning limit K [] (λ u behind x e eu. cc)) any
  closed_outcome (t ∷ tokens) = closed_meaning t tokens (meaning t) refl

pub reads_closed : {A A' B C : Type 0} {before : Token → Bool} {goes stops : A' → Token → Bool} {longer : ℕ → ℕ}
    {value : A' → C} {meaning : Token → Option A} {limit : A → Option Limit} {M : A → Language A'}
    (reader : A → Reader C)
    → ((t : Token) × (x : A) × (meaning t ≡ Some x)) → IsAlways limit → ((x : A) → IsInhabited (M x))
    → ReadsAfter B before goes stops longer value (token meaning limit >>= M)
    (λ tokens. reading.◌>>=◌ (token_at meaning limit tokens) (λ got. reader got.0 got.1))
reads_closed {meaning = meaning} {limit = limit} {M = M} reader means always some = record {
  exact = λ behind read most any avoids exact tokens le stop.
      moved (token meaning limit >>= (λ x. M x >>= behind)) (token meaning limit >>= M >>= behind) tokens
      (reading.◌>>=◌ (token_at meaning limit tokens) (λ got. reading.◌>>=◌ (reader got.0 got.1)
      (λ got. read got.0 got.1)))
      (reading.◌>>=◌ (reading.◌>>=◌ (token_at meaning limit tokens) (λ got. reader got.0 got.1))
      (λ got. read got.0 got.1))
      (then_then (token meaning limit) M behind) (then_then' (token meaning limit) M behind)
      (sym (read_then (token_at meaning limit tokens) (λ got. reader got.0 got.1) (λ got. read got.0 got.1)))
      (closed_outcome meaning limit (λ x. M x >>= behind)
      (λ x tokens. reading.◌>>=◌ (reader x tokens) (λ got. read got.0 got.1)) (λ x. some_then (some x) any) always
      (some_then (some_token means) (λ x. some_then (some x) any)) tokens);
}

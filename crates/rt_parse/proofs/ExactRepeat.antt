-- Readers of repetitions: steps for as long as a token comes next that a step begins with.
use Rattle.std.proofs.Common.{◌≡◌, ℕ, zero, suc, ◌≤◌, Bool, true, false, List, [], ◌∷◌, length, Result, Ok, refl, sym}
use Rattle.std.proofs.Common.{subst, inl, inr, arith}
use Rattle.std.specs.Prelude.{◌||◌, if◌then◌else◌}
use Rattle.rt_lemmas.proofs.Bools.{or_left, or_right}
use Rattle.rt_lex.specs.Token.{Token}
use Rattle.rt_grammar.specs.Language.{Language, ◌>>=◌, repeat}
use Rattle.rt_parse.specs.Inside.Reading as reading
use Rattle.rt_parse.specs.Inside.Reading.{Reader, begins_with, repeat_at}
use Rattle.rt_parse.specs.declared.stop.Found.{Found}
use Rattle.rt_parse.proofs.Exact.{Outcome, IsExactUnless, IsInhabited, Avoids, Starts, ReadsAfter, Reads, nothing}
use Rattle.rt_parse.proofs.ExactOutcome.{outcome_wider}
use Rattle.rt_parse.proofs.ExactLaws.{or_swap, repeat_then, repeat_then', read_then}
use Rattle.rt_parse.proofs.ExactToken.{begins_with-nothing, Avoids-nothing}
use Rattle.rt_parse.proofs.ExactThen.{Avoids-smaller, some_then, reads_seq, reads_wider}
use Rattle.rt_parse.proofs.ExactStarts.{starts_then, blocked_starts, blocked_avoids, avoids_first, avoids_repeat_then}
use Rattle.rt_parse.proofs.ExactStarts.{some_repeat}
use Rattle.rt_parse.proofs.ExactChoice.{begins_with-or}

-- after a step comes another, or what follows the repetition
pub repeat_avoids : {S B : Type 0} (test goes : Token → Bool) (step : S → Language S) (s : S) → Starts test (step s)
    → Avoids goes (step s)
    → (K : S → Language B) → Avoids (λ t. test t || goes t) (K s) → Avoids goes (repeat step s >>= K)
repeat_avoids test goes step s starts apart K avoids =
    avoids_repeat_then goes step s K (Avoids-smaller goes (λ t. test t || goes t) (λ t e. or_right (test t) (goes t) e)
    (K s) avoids) (avoids_first test goes starts apart (λ x. repeat step x >>= K))

module _ {S B C : Type 0} {goes stops : S → Token → Bool} {value : S → C} (test : Token → Bool) (step : S → Language S)
    (reader : C → Reader C)
    (starts : (s : S) → Starts test (step s)) (apart : (s : S) → Avoids (goes s) (step s))
    (steps : (s : S) → Reads B goes stops suc value (step s) (reader (value s))) where
  module _ (behind : S → Language B) (read : C → List Token → Result B Found) (most : ℕ)
      (any : (x : S) → IsInhabited (behind x)) (avoids : (x : S) → Avoids (λ t. test t || goes x t) (behind x))
      (exact : (x : S) → IsExactUnless (λ t. test t || stops x t) (behind x) (read (value x)) most) where
    rest_at : ℕ → C → List Token → Result B Found
    rest_at n c tokens = reading.◌>>=◌ (repeat_at test reader n c tokens) (λ got. read got.0 got.1)

    repeat_done : (s : S) (tokens : List Token) → length tokens ≤ most → begins_with (stops s) tokens ≡ false
        → begins_with test tokens ≡ false → Outcome (repeat step s >>= behind) tokens (read (value s) tokens)
    repeat_done s tokens le stop e =
        outcome_wider (behind s) (repeat step s >>= behind) (step s >>= λ x. repeat step x >>= behind) tokens
        (λ marks y k. repeat_then step s behind marks y (inl k)) (λ marks y l. repeat_then' step s behind marks y l)
        (blocked_starts test tokens (starts_then (λ x. repeat step x >>= behind) (starts s)) e)
        (read (value s) tokens) (exact s tokens le (begins_with-or test (stops s) tokens e stop))

    repeat_more : (n m : ℕ) (s : S) (tokens : List Token)
        → ((x : S) → IsExactUnless (stops x) (repeat step x >>= behind) (rest_at n (value x)) m)
        → length tokens ≤ suc m → begins_with test tokens ≡ true
        → Outcome (repeat step s >>= behind) tokens
        (reading.◌>>=◌ (reading.◌>>=◌ (reader (value s) tokens) (λ x. repeat_at test reader n x.0 x.1))
        (λ got. read got.0 got.1))
    unfolding rest_at
    repeat_more n m s tokens next le e =
        outcome_wider (step s >>= λ x. repeat step x >>= behind) (repeat step s >>= behind) (behind s) tokens
        (λ marks y l. repeat_then step s behind marks y (inr l))
        (λ marks y l. or_swap (behind s) (step s >>= λ x. repeat step x >>= behind) marks y
        (repeat_then' step s behind marks y l))
        (blocked_avoids test tokens (Avoids-smaller test (λ t. test t || goes s t)
        (λ t f. or_left (test t) (goes s t) f) (behind s) (avoids s)) e)
        (reading.◌>>=◌ (reading.◌>>=◌ (reader (value s) tokens) (λ x. repeat_at test reader n x.0 x.1))
        (λ got. read got.0 got.1))
        (subst (Outcome (step s >>= λ x. repeat step x >>= behind) tokens)
        (sym (read_then (reader (value s) tokens) (λ x. repeat_at test reader n x.0 x.1) (λ got. read got.0 got.1)))
        ((steps s).exact (λ x. repeat step x >>= behind) (rest_at n) m (λ x. some_then (some_repeat step x) any)
        (λ x. repeat_avoids test (goes x) step x (starts x) (apart x) behind (avoids x)) next tokens le
        (begins_with-nothing s tokens)))

    repeat_choose : (n m : ℕ) (s : S) (tokens : List Token)
        → ((x : S) → IsExactUnless (stops x) (repeat step x >>= behind) (rest_at n (value x)) m)
        → length tokens ≤ suc m → length tokens ≤ most → begins_with (stops s) tokens ≡ false → (b : Bool)
        → begins_with test tokens ≡ b
        → Outcome (repeat step s >>= behind) tokens
        (reading.◌>>=◌ (if b then reading.◌>>=◌ (reader (value s) tokens) (λ x. repeat_at test reader n x.0 x.1)
        else Ok (value s, tokens)) (λ got. read got.0 got.1))
    repeat_choose n m s tokens next le le' stop true e = repeat_more n m s tokens next le e
    repeat_choose n m s tokens next le le' stop false e = repeat_done s tokens le' stop e

    repeat_exact : (n m : ℕ) → m ≤ n → m ≤ most → (s : S) → IsExactUnless (stops s) (repeat step s >>= behind)
        (rest_at n (value s)) m
    unfolding rest_at repeat_at
    repeat_exact zero m le le' s [] lt stop = repeat_done s [] (omega arith) stop refl
    repeat_exact zero m le le' s (t ∷ tokens) lt stop = absurd (omega arith)
    repeat_exact (suc n) zero le le' s [] lt stop = repeat_done s [] (omega arith) stop refl
    repeat_exact (suc n) zero le le' s (t ∷ tokens) lt stop = absurd (omega arith)
    repeat_exact (suc n) (suc m) le le' s tokens lt stop = repeat_choose n m s tokens
        (repeat_exact n m (omega arith) (omega arith)) lt (omega arith) stop (begins_with test tokens) refl

    repeat_whole : (s : S) → IsExactUnless (stops s) (repeat step s >>= behind)
        (λ tokens. reading.◌>>=◌ (repeat_at test reader (length tokens) (value s) tokens) (λ got. read got.0 got.1))
        most
    unfolding rest_at
    repeat_whole s tokens le stop = repeat_exact (length tokens) (length tokens) (omega arith) le s tokens (omega arith)
        stop

  -- where no token comes next before which a step's reader stops
  pub reads_repeat_after : (s : S) → ReadsAfter B (stops s) (λ x t. test t || goes x t) (λ x t. test t || stops x t)
      (λ n. n) value (repeat step s) (λ tokens. repeat_at test reader (length tokens) (value s) tokens)
  reads_repeat_after s = record {
    exact = λ behind read most any avoids exact. repeat_whole behind read most any avoids
        exact s;
  }

  -- a form, and steps from what it means
  pub reads_chain : {before : Token → Bool} {longer : ℕ → ℕ} {L : Language S} {first : Reader C}
      → ReadsAfter B before goes stops longer value L first
      → ReadsAfter B before (λ x t. test t || goes x t) (λ x t. test t || stops x t) longer value (L >>= repeat step)
      (λ tokens. reading.◌>>=◌ (first tokens) (λ got. repeat_at test reader (length got.1) got.0 got.1))
  reads_chain reads = reads_seq (λ c tokens. repeat_at test reader (length tokens) c tokens) reads reads_repeat_after
      (some_repeat step)
      (λ x K avoids. repeat_avoids test (goes x) step x (starts x) (apart x) K (avoids x))

-- steps wherever they are used
pub reads_repeat_goes : {S B C : Type 0} {before : Token → Bool} {goes : S → Token → Bool} {value : S → C}
    (test : Token → Bool) {step : S → Language S} (reader : C → Reader C)
    → ((s : S) → Starts test (step s)) → ((s : S) → Avoids (goes s) (step s))
    → ((s : S) → Reads B goes nothing suc value (step s) (reader (value s)))
    → (s : S) → ReadsAfter B before (λ x t. test t || goes x t) (λ x. test) (λ n. n) value (repeat step s)
    (λ tokens. repeat_at test reader (length tokens) (value s) tokens)
reads_repeat_goes test {step = step} reader starts apart steps s =
    reads_wider (λ t e. absurd cc) (λ x t e. e) (λ x t e. or_left (test t) false e)
    (reads_repeat_after {stops = nothing} test step reader starts apart steps s)

-- steps that no token goes on with
pub reads_repeat : {S B C : Type 0} {before : Token → Bool} {value : S → C} (test : Token → Bool)
    {step : S → Language S} (reader : C → Reader C)
    → ((s : S) → Starts test (step s)) → ((s : S) → Reads B nothing nothing suc value (step s) (reader (value s)))
    → (s : S) → ReadsAfter B before (λ x. test) (λ x. test) (λ n. n) value (repeat step s)
    (λ tokens. repeat_at test reader (length tokens) (value s) tokens)
reads_repeat test {step = step} reader starts steps s =
    reads_wider (λ t e. e) (λ x t e. or_none (test t) e) (λ x t e. e)
    (reads_repeat_goes {goes = nothing} test reader starts (λ s. Avoids-nothing s (step s)) steps s)
  where
    or_none : (b : Bool) → (b || false) ≡ true → b ≡ true
    or_none true e = refl
    or_none false e = e

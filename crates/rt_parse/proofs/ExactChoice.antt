-- Readers of one form or another, told apart by the next token.
use Rattle.std.proofs.Common.{◌≡◌, ℕ, ◌≤◌, Bool, true, false, List, [], ◌∷◌, Result, Ok, refl, inl, inr}
use Rattle.std.specs.Prelude.{◌||◌, if◌then◌else◌}
use Rattle.rt_lemmas.proofs.Bools.{or_left, or_neither}
use Rattle.rt_lex.specs.Token.{Token}
use Rattle.rt_grammar.specs.Mark.{Mark}
use Rattle.rt_grammar.specs.Language.{Language, gives, ◌>>=◌, ◌or◌, only_if}
use Rattle.rt_parse.specs.Inside.Reading as reading
use Rattle.rt_parse.specs.Inside.Reading.{Reader, begins_with}
use Rattle.rt_parse.specs.declared.stop.Found.{Found}
use Rattle.rt_parse.proofs.Exact.{Outcome, Avoids, Starts, ReadsAfter, nothing}
use Rattle.rt_parse.proofs.ExactOutcome.{outcome_wider}
use Rattle.rt_parse.proofs.ExactLaws.{or_then, or_then', or_swap}
use Rattle.rt_parse.proofs.ExactToken.{reads_gives}
use Rattle.rt_parse.proofs.ExactThen.{Avoids-smaller, reads_same, reads_fewer, reads_no_stop, reads_wider}
use Rattle.rt_parse.proofs.ExactStarts.{starts_then, blocked_starts, blocked_avoids, avoids_gives_then}

pub begins_with-or : (test test' : Token → Bool) (tokens : List Token) → begins_with test tokens ≡ false
    → begins_with test' tokens ≡ false → begins_with (λ t. test t || test' t) tokens ≡ false
begins_with-or test test' [] e f = refl
begins_with-or test test' (t ∷ tokens) e f = or_neither (test t) (test' t) e f

-- the outcome for the form that the next token decides
pub outcome_left : {A B : Type 0} (test : Token → Bool) (L M : Language A) (K : A → Language B) (tokens : List Token)
    (read : Result B Found)
    → Avoids test (M >>= K) → begins_with test tokens ≡ true → Outcome (L >>= K) tokens read
    → Outcome ((L or M) >>= K) tokens read
outcome_left test L M K tokens read avoids begins =
    outcome_wider (L >>= K) ((L or M) >>= K) (M >>= K) tokens (λ marks y l. or_then L M K marks y (inl l))
    (λ marks y l. or_then' L M K marks y l) (blocked_avoids test tokens avoids begins) read

pub outcome_right : {A B : Type 0} (test : Token → Bool) (L M : Language A) (K : A → Language B) (tokens : List Token)
    (read : Result B Found)
    → Starts test L → begins_with test tokens ≡ false → Outcome (M >>= K) tokens read
    → Outcome ((L or M) >>= K) tokens read
outcome_right test L M K tokens read starts begins =
    outcome_wider (M >>= K) ((L or M) >>= K) (L >>= K) tokens (λ marks y m. or_then L M K marks y (inr m))
    (λ marks y l. or_swap (L >>= K) (M >>= K) marks y (or_then' L M K marks y l))
    (blocked_starts test tokens (starts_then K starts) begins) read

-- The first form begins with a token of the test, and the second with none. The second is used where no such token is
-- next.
pub reads_choice_after : {A B C : Type 0} {before : Token → Bool} {goes stops : A → Token → Bool} {longer : ℕ → ℕ}
    {value : A → C} {L M : Language A} {reader reader' : Reader C} (test : Token → Bool)
    → Starts test L → ((K : A → Language B) → ((x : A) → Avoids (goes x) (K x)) → Avoids test (M >>= K))
    → ReadsAfter B before goes stops longer value L reader → ReadsAfter B (λ t. before t || test t) goes stops longer
    value M reader'
    → ReadsAfter B before goes stops longer value (L or M)
    (λ tokens. if begins_with test tokens then reader tokens else reader' tokens)
reads_choice_after {A} {B} {C} {before = before} {longer = longer} {L = L} {M = M} {reader = reader} {reader' = reader'}
    test starts apart first second = record {
      exact = λ behind read most any avoids exact tokens le stop.
          choose behind read tokens (apart behind avoids) (begins_with test tokens) refl
          (first.exact behind read most any avoids exact tokens le stop)
          (λ e. second.exact behind read most any avoids exact tokens le (begins_with-or before test tokens stop e));
    }
  where
    choose : (K : A → Language B) (read : C → List Token → Result B Found) (tokens : List Token) → Avoids test (M >>= K)
        → (b : Bool) → begins_with test tokens ≡ b
        → Outcome (L >>= K) tokens (reading.◌>>=◌ (reader tokens) (λ got. read got.0 got.1))
        → (begins_with test tokens ≡ false → Outcome (M >>= K) tokens
        (reading.◌>>=◌ (reader' tokens) (λ got. read got.0 got.1)))
        → Outcome ((L or M) >>= K) tokens (reading.◌>>=◌ (if b then reader tokens else reader' tokens)
        (λ got. read got.0 got.1))
    choose K read tokens avoids true e l m = outcome_left test L M K tokens
        (reading.◌>>=◌ (reader tokens) (λ got. read got.0 got.1)) avoids e l
    choose K read tokens avoids false e l m = outcome_right test L M K tokens
        (reading.◌>>=◌ (reader' tokens) (λ got. read got.0 got.1)) starts e (m e)

-- the same where the reader tests for the second form
pub reads_choice_after' : {A B C : Type 0} {before : Token → Bool} {goes stops : A → Token → Bool} {longer : ℕ → ℕ}
    {value : A → C} {L M : Language A} {reader reader' : Reader C} (test : Token → Bool)
    → Starts test M → ((K : A → Language B) → ((x : A) → Avoids (goes x) (K x)) → Avoids test (L >>= K))
    → ReadsAfter B (λ t. before t || test t) goes stops longer value L reader
    → ReadsAfter B before goes stops longer value M reader'
    → ReadsAfter B before goes stops longer value (L or M)
    (λ tokens. if begins_with test tokens then reader' tokens else reader tokens)
reads_choice_after' {L = L} {M = M} test starts apart first second =
    reads_same (or_swap M L) (or_swap L M) (λ tokens. refl) (reads_choice_after test starts apart second first)

-- the same where both may be used wherever the choice is
pub reads_choice : {A B C : Type 0} {before : Token → Bool} {goes stops : A → Token → Bool} {longer : ℕ → ℕ}
    {value : A → C} {L M : Language A} {reader reader' : Reader C} (test : Token → Bool)
    → Starts test L → ((K : A → Language B) → ((x : A) → Avoids (goes x) (K x)) → Avoids test (M >>= K))
    → ReadsAfter B before goes stops longer value L reader → ReadsAfter B before goes stops longer value M reader'
    → ReadsAfter B before goes stops longer value (L or M)
    (λ tokens. if begins_with test tokens then reader tokens else reader' tokens)
reads_choice {before = before} test starts apart first second = reads_choice_after test starts apart first
    (reads_wider (λ t e. or_left (before t) (test t) e) (λ x t e. e) (λ x t e. e) second)

pub reads_choice' : {A B C : Type 0} {before : Token → Bool} {goes stops : A → Token → Bool} {longer : ℕ → ℕ}
    {value : A → C} {L M : Language A} {reader reader' : Reader C} (test : Token → Bool)
    → Starts test M → ((K : A → Language B) → ((x : A) → Avoids (goes x) (K x)) → Avoids test (L >>= K))
    → ReadsAfter B before goes stops longer value L reader → ReadsAfter B before goes stops longer value M reader'
    → ReadsAfter B before goes stops longer value (L or M)
    (λ tokens. if begins_with test tokens then reader' tokens else reader tokens)
reads_choice' {L = L} {M = M} test starts apart first second = reads_same (or_swap M L) (or_swap L M) (λ tokens. refl)
    (reads_choice test starts apart second first)

-- a form that may be left out
pub reads_optional : {A B C : Type 0} {before : Token → Bool} {goes : A → Token → Bool} {longer : ℕ → ℕ} {value : A → C}
    {L : Language A} {reader : Reader C} (test : Token → Bool) (x : A)
    → Starts test L → ((t : Token) → test t ≡ true → goes x t ≡ true) → ((n : ℕ) → n ≤ longer n)
    → ReadsAfter B before goes nothing longer value L reader
    → ReadsAfter B before goes nothing (λ n. n) value (gives x or L)
    (λ tokens. if begins_with test tokens then reader tokens else Ok (value x, tokens))
reads_optional {goes = goes} test x starts wider less reads =
    reads_choice' test starts (λ K avoids. avoids_gives_then test x K
    (Avoids-smaller test (goes x) wider (K x) (avoids x))) (reads_no_stop (reads_gives x)) (reads_fewer less reads)

-- beside a form that no text is in
pub reads_alone : {A B C : Type 0} {before : Token → Bool} {goes stops : A → Token → Bool} {longer : ℕ → ℕ}
    {value : A → C} {L : Language A} {reader : Reader C} (M : Language A)
    → ((marks : List Mark) (x : A) → M marks x → ⊥) → ReadsAfter B before goes stops longer value L reader
    → ReadsAfter B before goes stops longer value (L or M) reader
reads_alone {A} {L = L} M none reads = reads_same (λ marks x l. inl l) (λ marks x l. go marks x l) (λ tokens. refl)
    reads
  where
    go : (marks : List Mark) (x : A) → (L or M) marks x → L marks x
    go marks x (inl l) = l
    go marks x (inr m) = absurd (none marks x m)

pub reads_alone' : {A B C : Type 0} {before : Token → Bool} {goes stops : A → Token → Bool} {longer : ℕ → ℕ}
    {value : A → C} {M : Language A} {reader : Reader C} (L : Language A)
    → ((marks : List Mark) (x : A) → L marks x → ⊥) → ReadsAfter B before goes stops longer value M reader
    → ReadsAfter B before goes stops longer value (L or M) reader
reads_alone' {M = M} L none reads = reads_same (or_swap M L) (or_swap L M) (λ tokens. refl) (reads_alone L none reads)

pub none_only_if : {A : Type 0} {holds : Bool} (L : Language A) → holds ≡ false → (marks : List Mark) (x : A)
    → only_if holds L marks x → ⊥
none_only_if L e marks x (f, l) = absurd cc

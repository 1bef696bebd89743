-- Readers of one form after another, and facts of readers weakened.
use Rattle.std.proofs.Common.{◌≡◌, ℕ, ◌≤◌, Bool, true, false, List, [], ◌∷◌, ◌++◌, Result, Ok, refl, sym, ap, subst}
use Rattle.std.proofs.Common.{arith}
use Rattle.rt_lex.specs.Token.{Token}
use Rattle.rt_grammar.specs.Mark.{Mark, Takes, Ends}
use Rattle.rt_grammar.specs.Language.{Language, gives, ◌>>=◌, only_if}
use Rattle.rt_parse.specs.Inside.Reading as reading
use Rattle.rt_parse.specs.Inside.Reading.{Reader, begins_with}
use Rattle.rt_parse.specs.declared.stop.Found.{Found}
use Rattle.rt_parse.proofs.Exact.{Outcome, IsInhabited, Avoids, AvoidsMarks, ReadsAfter, Reads, nothing}
use Rattle.rt_parse.proofs.ExactLaws.{IsWithinLanguage, same_outcome, then_then, then_then', then_same, same_then}
use Rattle.rt_parse.proofs.ExactLaws.{gives_then, gives_then', read_then}
use Rattle.rt_parse.proofs.ExactToken.{Avoids-nothing}

pub begins_with-smaller : (test test' : Token → Bool) → ((t : Token) → test t ≡ true → test' t ≡ true)
    → (tokens : List Token) → begins_with test' tokens ≡ false → begins_with test tokens ≡ false
begins_with-smaller test test' wider [] e = refl
begins_with-smaller test test' wider (t ∷ tokens) e = go (test t) refl
  where
    go : (b : Bool) → test t ≡ b → test t ≡ false
    go false f = f
    go true f = let g : test' t ≡ true = wider t f in absurd cc

pub Avoids-smaller : {B : Type 0} (test test' : Token → Bool) → ((t : Token) → test t ≡ true → test' t ≡ true)
    → (language : Language B) → Avoids test' language → Avoids test language
Avoids-smaller {B} test test' wider language avoids marks y l = go marks (avoids marks y l)
  where
    go : (marks : List Mark) → AvoidsMarks test' marks → AvoidsMarks test marks
    go [] a = tt
    go (Takes t limit ∷ marks) a = begins_with-smaller test test' wider (t ∷ []) a
    go (Ends compares deep ∷ marks) a = λ t e. a t (wider t e)

pub some_then : {A B : Type 0} {L : Language A} {K : A → Language B} → IsInhabited L → ((x : A) → IsInhabited (K x))
    → IsInhabited (L >>= K)
some_then (marks, x, l) some = (marks ++ (some x).0, (some x).1, (x, marks, (some x).0, l, (some x).2, refl))

pub moved : {B : Type 0} (K M : Language B) (tokens : List Token) (read read' : Result B Found) → IsWithinLanguage K M
    → IsWithinLanguage M K → read ≡ read' → Outcome K tokens read → Outcome M tokens read'
moved {B} K M tokens read read' into out e o = same_outcome K M tokens read' into out
    (subst (λ (r : Result B Found). Outcome K tokens r) e o)

-- the second form begins with no token that goes on with the first
pub reads_seq : {A A' B C C' : Type 0} {before : Token → Bool} {goes1 stops1 : A → Token → Bool}
    {goes stops : A' → Token → Bool} {longer1 longer : ℕ → ℕ} {value : A → C} {value' : A' → C'}
    {L : Language A} {M : A → Language A'} {reader : Reader C} (reader' : C → Reader C')
    → ReadsAfter B before goes1 stops1 longer1 value L reader
    → ((x : A) → ReadsAfter B (stops1 x) goes stops longer value' (M x) (reader' (value x)))
    → ((x : A) → IsInhabited (M x))
    → ((x : A) (K : A' → Language B) → ((y : A') → Avoids (goes y) (K y)) → Avoids (goes1 x) (M x >>= K))
    → ReadsAfter B before goes stops (λ n. longer1 (longer n)) value' (L >>= M)
    (λ tokens. reading.◌>>=◌ (reader tokens) (λ got. reader' got.0 got.1))
reads_seq {longer1 = longer1} {longer = longer} {value = value} {L = L} {M = M} {reader = reader} reader' first second
    some apart = record {
      exact = λ behind read most any avoids exact tokens le stop.
          moved (L >>= (λ x. M x >>= behind)) (L >>= M >>= behind) tokens
          (reading.◌>>=◌ (reader tokens) (λ got. reading.◌>>=◌ (reader' got.0 got.1) (λ got. read got.0 got.1)))
          (reading.◌>>=◌ (reading.◌>>=◌ (reader tokens) (λ got. reader' got.0 got.1)) (λ got. read got.0 got.1))
          (then_then L M behind) (then_then' L M behind)
          (sym (read_then (reader tokens) (λ got. reader' got.0 got.1) (λ got. read got.0 got.1)))
          (first.exact (λ x. M x >>= behind) (λ c tokens. reading.◌>>=◌ (reader' c tokens) (λ got. read got.0 got.1))
          (longer most)
          (λ x. some_then (some x) any) (λ x. apart x behind avoids)
          (λ x tokens le stop. (second x).exact behind read most any avoids exact tokens le stop) tokens le stop);
    }

pub reads_then : {A A' B C C' : Type 0} {before : Token → Bool} {stops1 : A → Token → Bool}
    {goes stops : A' → Token → Bool} {longer1 longer : ℕ → ℕ} {value : A → C} {value' : A' → C'}
    {L : Language A} {M : A → Language A'} {reader : Reader C} (reader' : C → Reader C')
    → ReadsAfter B before nothing stops1 longer1 value L reader
    → ((x : A) → ReadsAfter B (stops1 x) goes stops longer value' (M x) (reader' (value x)))
    → ((x : A) → IsInhabited (M x))
    → ReadsAfter B before goes stops (λ n. longer1 (longer n)) value' (L >>= M)
    (λ tokens. reading.◌>>=◌ (reader tokens) (λ got. reader' got.0 got.1))
reads_then {M = M} reader' first second some = reads_seq reader' first second some
    (λ x K avoids. Avoids-nothing x (M x >>= K))

-- a form whose meaning is built from another's
pub reads_map : {A A' B C C' : Type 0} {before : Token → Bool} {goes stops : A' → Token → Bool} {longer : ℕ → ℕ}
    {value : A → C} {value' : A' → C'} {L : Language A} {reader : Reader C} (h : A → A') (h' : C → C')
    → ReadsAfter B before (λ x. goes (h x)) (λ x. stops (h x)) longer value L reader
    → ((x : A) → h' (value x) ≡ value' (h x))
    → ReadsAfter B before goes stops longer value' (L >>= λ x. gives (h x))
    (λ tokens. reading.◌>>=◌ (reader tokens) (λ got. Ok (h' got.0, got.1)))
reads_map {longer = longer} {value = value} {L = L} {reader = reader} h h' first same = record {
  exact = λ behind read most any avoids exact tokens le stop.
      moved (L >>= (λ x. behind (h x))) (L >>= (λ x. gives (h x)) >>= behind) tokens
      (reading.◌>>=◌ (reader tokens) (λ got. read (h' got.0) got.1))
      (reading.◌>>=◌ (reading.◌>>=◌ (reader tokens) (λ got. Ok (h' got.0, got.1))) (λ got. read got.0 got.1))
      (λ marks y l. then_then L (λ x. gives (h x)) behind marks y
      (then_same L (λ x. behind (h x)) (λ x. gives (h x) >>= behind) (λ x. gives_then (h x) behind) marks y l))
      (λ marks y l. then_same L (λ x. gives (h x) >>= behind) (λ x. behind (h x)) (λ x. gives_then' (h x) behind) marks
      y (then_then' L (λ x. gives (h x)) behind marks y l))
      (sym (read_then (reader tokens) (λ got. Ok (h' got.0, got.1)) (λ got. read got.0 got.1)))
      (first.exact (λ x. behind (h x)) (λ c. read (h' c)) most (λ x. any (h x)) (λ x. avoids (h x))
      (λ x tokens le stop. subst (λ (c : _). Outcome (behind (h x)) tokens (read c tokens)) (sym (same x))
      (exact (h x) tokens le stop)) tokens le stop);
}

pub reads_fewer : {A B C : Type 0} {before : Token → Bool} {goes stops : A → Token → Bool} {longer shorter : ℕ → ℕ}
    {value : A → C} {L : Language A} {reader : Reader C}
    → ((n : ℕ) → shorter n ≤ longer n) → ReadsAfter B before goes stops longer value L reader
    → ReadsAfter B before goes stops shorter value L reader
reads_fewer {longer = longer} {shorter = shorter} less reads = record {
  exact = λ behind read most any avoids exact tokens le stop.
      reads.exact behind read most any avoids exact tokens (let l : shorter most ≤ longer most = less most in
      omega arith) stop;
}

-- more tokens may come before the form and go on with it, and fewer stop its reader
pub reads_wider : {A B C : Type 0} {before before' : Token → Bool} {goes goes' stops stops' : A → Token → Bool}
    {longer : ℕ → ℕ} {value : A → C} {L : Language A} {reader : Reader C}
    → ((t : Token) → before t ≡ true → before' t ≡ true) → ((x : A) (t : Token) → goes x t ≡ true → goes' x t ≡ true)
    → ((x : A) (t : Token) → stops' x t ≡ true → stops x t ≡ true)
    → ReadsAfter B before goes stops longer value L reader → ReadsAfter B before' goes' stops' longer value L reader
reads_wider {before = before} {before' = before'} {goes = goes} {goes' = goes'} {stops = stops} {stops' = stops'} more
    wider smaller reads = record {
      exact = λ behind read most any avoids exact tokens le stop.
          reads.exact behind read most any (λ x. Avoids-smaller (goes x) (goes' x) (wider x) (behind x) (avoids x))
          (λ x tokens le stop. exact x tokens le (begins_with-smaller (stops' x) (stops x) (smaller x) tokens stop))
          tokens
          le (begins_with-smaller before before' more tokens stop);
    }

pub reads_goes : {A B C : Type 0} {before : Token → Bool} {goes goes' stops : A → Token → Bool} {longer : ℕ → ℕ}
    {value : A → C} {L : Language A} {reader : Reader C}
    → ((x : A) (t : Token) → goes x t ≡ true → goes' x t ≡ true) → ReadsAfter B before goes stops longer value L reader
    → ReadsAfter B before goes' stops longer value L reader
reads_goes wider reads = reads_wider (λ t e. e) wider (λ x t e. e) reads

-- whatever tokens go on with it
pub reads_any : {A B C : Type 0} {before : Token → Bool} {goes stops : A → Token → Bool} {longer : ℕ → ℕ}
    {value : A → C} {L : Language A} {reader : Reader C}
    → ReadsAfter B before nothing stops longer value L reader → ReadsAfter B before goes stops longer value L reader
reads_any reads = reads_goes (λ x t e. absurd cc) reads

-- its reader stops before no token that is known of
pub reads_no_stop : {A B C : Type 0} {before : Token → Bool} {goes stops : A → Token → Bool} {longer : ℕ → ℕ}
    {value : A → C} {L : Language A} {reader : Reader C}
    → ReadsAfter B before goes stops longer value L reader → ReadsAfter B before goes nothing longer value L reader
reads_no_stop reads = reads_wider (λ t e. e) (λ x t e. e) (λ x t e. absurd cc) reads

-- used after whatever
pub reads_after : {A B C : Type 0} {before : Token → Bool} {goes stops : A → Token → Bool} {longer : ℕ → ℕ}
    {value : A → C} {L : Language A} {reader : Reader C}
    → Reads B goes stops longer value L reader → ReadsAfter B before goes stops longer value L reader
reads_after reads = reads_wider (λ t e. absurd cc) (λ x t e. e) (λ x t e. e) reads

-- the same texts, and the same reading
pub reads_same : {A B C : Type 0} {before : Token → Bool} {goes stops : A → Token → Bool} {longer : ℕ → ℕ}
    {value : A → C} {L M : Language A} {reader reader' : Reader C}
    → IsWithinLanguage L M → IsWithinLanguage M L → ((tokens : List Token) → reader tokens ≡ reader' tokens)
    → ReadsAfter B before goes stops longer value L reader → ReadsAfter B before goes stops longer value M reader'
reads_same {L = L} {M = M} {reader = reader} {reader' = reader'} into out same reads = record {
  exact = λ behind read most any avoids exact tokens le stop.
      moved (L >>= behind) (M >>= behind) tokens (reading.◌>>=◌ (reader tokens) (λ got. read got.0 got.1))
      (reading.◌>>=◌ (reader' tokens) (λ got. read got.0 got.1))
      (same_then L M behind into) (same_then M L behind out)
      (ap (λ (r : _). reading.◌>>=◌ r (λ got. read got.0 got.1)) (same tokens))
      (reads.exact behind read most any avoids exact tokens le stop);
}

pub reads_only_if : {A B C : Type 0} {before : Token → Bool} {goes stops : A → Token → Bool} {longer : ℕ → ℕ}
    {value : A → C} {holds : Bool} {L : Language A} {reader : Reader C}
    → holds ≡ true → ReadsAfter B before goes stops longer value L reader
    → ReadsAfter B before goes stops longer value (only_if holds L) reader
reads_only_if {holds = holds} {L = L} e reads = reads_same (λ marks y l. (e, l)) (λ marks y l. l.1) (λ tokens. refl)
    reads

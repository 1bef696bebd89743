-- Exactness under another language, another reader and fewer tokens; the laws of languages and of reading.
use Rattle.std.proofs.Common.{◌≡◌, zero, suc, List, [], ◌++◌, Result, Ok, Err, refl, sym, subst, inl, inr}
use Rattle.std.proofs.lemmas.List.{append-nil, append_assoc}
use Rattle.rt_lex.specs.Token.{Token}
use Rattle.rt_grammar.specs.Mark.{Mark}
use Rattle.rt_grammar.specs.Language.{Language, gives, ◌>>=◌, ◌or◌, never, repeat}
use Rattle.rt_parse.specs.Inside.Reading as reading
use Rattle.rt_parse.specs.declared.stop.Found.{Found}
use Rattle.rt_parse.proofs.Exact.{Outcome}
use Rattle.rt_parse.proofs.ExactOutcome.{IsBlocked, outcome_wider}

-- each text of one language is a text of the other, with the same meaning
abbrev pub IsWithinLanguage : {B : Type 0} → Language B → Language B → Type 0
IsWithinLanguage {B} K M = (marks : List Mark) (y : B) → K marks y → M marks y

blocked_never : {B : Type 0} (tokens : List Token) → IsBlocked (never {A = B}) tokens
blocked_never tokens = record { out = λ m marks y front rest l fits. l; some = λ y l e. l }

pub same_outcome : {B : Type 0} (K M : Language B) (tokens : List Token) (read : Result B Found) → IsWithinLanguage K M
    → IsWithinLanguage M K → Outcome K tokens read → Outcome M tokens read
same_outcome K M tokens read into out = outcome_wider K M never tokens into (λ marks y m. inl (out marks y m))
    (blocked_never tokens) read

-- Laws of languages, each in both directions.

pub then_then : {A B C : Type 0} (L : Language A) (M : A → Language B) (N : B → Language C)
    → IsWithinLanguage (L >>= (λ x. M x >>= N)) (L >>= M >>= N)
then_then L M N marks z (x, front, back, l, (y, middle, end, m, n, e'), e) = (
  y,
  front ++ middle,
  end,
  (x, front, middle, l, m, refl),
  n,
  (let f : (front ++ middle) ++ end ≡ front ++ (middle ++ end) = append_assoc front middle end in cc),
)

pub then_then' : {A B C : Type 0} (L : Language A) (M : A → Language B) (N : B → Language C)
    → IsWithinLanguage (L >>= M >>= N) (L >>= (λ x. M x >>= N))
then_then' L M N marks z (y, both, end, (x, front, middle, l, m, e'), n, e) = (
  x,
  front,
  middle ++ end,
  l,
  (y, middle, end, m, n, refl),
  (let f : (front ++ middle) ++ end ≡ front ++ (middle ++ end) = append_assoc front middle end in cc),
)

pub gives_then : {A B : Type 0} (x : A) (K : A → Language B) → IsWithinLanguage (K x) (gives x >>= K)
gives_then x K marks y k = (x, [], marks, (refl, refl), k, refl)

pub gives_then' : {A B : Type 0} (x : A) (K : A → Language B) → IsWithinLanguage (gives x >>= K) (K x)
gives_then' {A} {B} x K marks y (x', front, back, (e, e'), k, f) =
    let g : back ≡ marks = cc in
    subst (λ (ms : List Mark). K x ms y) g (subst (λ (z : A). K z back y) e' k)

pub then_gives : {A : Type 0} (L : Language A) → IsWithinLanguage L (L >>= gives)
then_gives L marks y l = (y, marks, [], l, (refl, refl), sym (append-nil marks))

pub then_gives' : {A : Type 0} (L : Language A) → IsWithinLanguage (L >>= gives) L
then_gives' L marks y (x, front, back, l, (eb, ey), e) =
    let n : front ++ [] ≡ front = append-nil front in
    let f : front ≡ marks = cc in
    subst (λ (ms : List Mark). L ms y) f (subst (λ (z : _). L front z) (sym ey) l)

pub then_same : {A B : Type 0} (L : Language A) (M N : A → Language B) → ((x : A) → IsWithinLanguage (M x) (N x))
    → IsWithinLanguage (L >>= M) (L >>= N)
then_same L M N into marks y (x, front, back, l, m, e) = (x, front, back, l, into x back y m, e)

pub same_then : {A B : Type 0} (L M : Language A) (N : A → Language B) → IsWithinLanguage L M
    → IsWithinLanguage (L >>= N) (M >>= N)
same_then L M N into marks y (x, front, back, l, n, e) = (x, front, back, into front x l, n, e)

pub or_then : {A B : Type 0} (L M : Language A) (K : A → Language B)
    → IsWithinLanguage ((L >>= K) or (M >>= K)) ((L or M) >>= K)
or_then L M K marks y (inl (x, front, back, l, k, e)) = (x, front, back, inl l, k, e)
or_then L M K marks y (inr (x, front, back, m, k, e)) = (x, front, back, inr m, k, e)

pub or_then' : {A B : Type 0} (L M : Language A) (K : A → Language B)
    → IsWithinLanguage ((L or M) >>= K) ((L >>= K) or (M >>= K))
or_then' L M K marks y (x, front, back, inl l, k, e) = inl (x, front, back, l, k, e)
or_then' L M K marks y (x, front, back, inr m, k, e) = inr (x, front, back, m, k, e)

pub or_swap : {B : Type 0} (K M : Language B) → IsWithinLanguage (K or M) (M or K)
or_swap K M marks y (inl k) = inr k
or_swap K M marks y (inr m) = inl m

-- Laws of reading.

pub read_then : {A B C E : Type 0} (r : Result A E) (f : A → Result B E) (g : B → Result C E)
    → reading.◌>>=◌ (reading.◌>>=◌ r f) g ≡ reading.◌>>=◌ r (λ x. reading.◌>>=◌ (f x) g)
read_then (Ok x) f g = refl
read_then (Err e) f g = refl

-- A repetition is nothing, or a step and the repetition after it.

pub repeat_then : {S B : Type 0} (step : S → Language S) (s : S) (K : S → Language B)
    → IsWithinLanguage (K s or (step s >>= λ x. repeat step x >>= K)) (repeat step s >>= K)
repeat_then step s K marks y (inl k) = (s, [], marks, (zero, (refl, refl)), k, refl)
repeat_then step s K marks y (inr (x, front, back, l, (z, middle, end, (n, t), k, e'), e)) = (
  z,
  front ++ middle,
  end,
  (suc n, (x, front, middle, l, t, refl)),
  k,
  (let f : (front ++ middle) ++ end ≡ front ++ (middle ++ end) = append_assoc front middle end in cc),
)

pub repeat_then' : {S B : Type 0} (step : S → Language S) (s : S) (K : S → Language B)
    → IsWithinLanguage (repeat step s >>= K) (K s or (step s >>= λ x. repeat step x >>= K))
repeat_then' step s K marks y (z, both, end, (zero, t), k, e) = inl (gives_then' s K marks y (z, both, end, t, k, e))
repeat_then' step s K marks y (z, both, end, (suc n, (x, front, middle, l, t, e')), k, e) =
    inr (
      x,
      front,
      middle ++ end,
      l,
      (z, middle, end, (n, t), k, refl),
      (let f : (front ++ middle) ++ end ≡ front ++ (middle ++ end) = append_assoc front middle end in cc),
    )

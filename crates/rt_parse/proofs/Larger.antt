-- A language that has each text of another, with the same meaning: it grows with the languages that it is made of.
use Rattle.std.proofs.Common.{ℕ, zero, suc, List, length, inl, inr}
use Rattle.rt_grammar.specs.Language.{Language, gives, ◌>>=◌, ◌>>◌, ◌or◌, or_else, never, times, repeat}
use Rattle.rt_grammar.specs.Tokens.{sign, list, adds}
use Rattle.rt_parse.proofs.ExactLaws.{IsWithinLanguage, then_same, same_then}

-- each text of one language is a text of the other, with the same meaning
pub record Grows {B : Type 0} (K M : Language B) : Type 0 where
  pub into : IsWithinLanguage K M

pub grows_same : {B : Type 0} (K : Language B) → Grows K K
grows_same K = record { into = λ marks y k. k }

pub grows_never : {B : Type 0} (M : Language B) → Grows (never {A = B}) M
grows_never M = record { into = λ marks y k. absurd k }

pub grows_then : {A B : Type 0} {L M : Language A} {N O : A → Language B} → Grows L M → ((x : A) → Grows (N x) (O x))
    → Grows (L >>= N) (M >>= O)
grows_then {L = L} {M = M} {N = N} {O = O} first next =
    record {
      into = λ marks y both. then_same M N O (λ x. (next x).into) marks y
          (same_then L M N first.into marks y both);
    }

-- after a form that stays the same
pub grows_behind : {A B : Type 0} (L : Language A) {N O : A → Language B} → ((x : A) → Grows (N x) (O x))
    → Grows (L >>= N) (L >>= O)
grows_behind L {N = N} {O = O} next = record { into = then_same L N O (λ x. (next x).into) }

-- before a form that stays the same
pub grows_before : {A B : Type 0} {L M : Language A} (N : A → Language B) → Grows L M → Grows (L >>= N) (M >>= N)
grows_before {L = L} {M = M} N first = record { into = same_then L M N first.into }

pub grows_or : {B : Type 0} {K L M N : Language B} → Grows K L → Grows M N → Grows (K or M) (L or N)
grows_or {B} {K} {L} {M} {N} one other = record { into = go }
  where
    go : IsWithinLanguage (K or M) (L or N)
    go marks y (inl k) = inl (one.into marks y k)
    go marks y (inr m) = inr (other.into marks y m)

pub grows_or_else : {B : Type 0} (x : B) {K M : Language B} → Grows K M → Grows (or_else x K) (or_else x M)
grows_or_else x grows = grows_or (grows_same (gives x)) grows

pub grows_times : {S : Type 0} (n : ℕ) {step more : S → Language S} → ((s : S) → Grows (step s) (more s)) → (s : S)
    → Grows (times n step s) (times n more s)
grows_times zero grows s = grows_same (gives s)
grows_times (suc n) grows s = grows_then (grows s) (grows_times n grows)

pub grows_repeat : {S : Type 0} {step more : S → Language S} → ((s : S) → Grows (step s) (more s)) → (s : S)
    → Grows (repeat step s) (repeat more s)
grows_repeat grows s = record { into = λ marks y k. (k.0, (grows_times k.0 grows s).into marks y k.1) }

pub grows_list : {S : Type 0} (closing : List ℕ) {item more : S → Language S} → ((s : S) → Grows (item s) (more s))
    → (start : S) → Grows (list closing item start) (list closing more start)
grows_list closing grows start =
    grows_then (grows_repeat (λ s. grows_before (λ x. sign _ >> gives x) (grows s)) start)
    (λ most. grows_before (λ all. sign closing >> gives all) (grows_or (grows_same (gives most)) (grows most)))

pub grows_adds : {A : Type 0} {item more : ℕ → Language A} → ((n : ℕ) → Grows (item n) (more n)) → (xs : List A)
    → Grows (adds item xs) (adds more xs)
grows_adds grows xs = grows_before _ (grows (length xs))

-- Readers that take a token at least, or none.
use Rattle.std.proofs.Common.{◌≡◌, ℕ, zero, suc, ◌<◌, ◌≤◌, Bool, true, false, cond, List, [], ◌∷◌, length, Option, Some}
use Rattle.std.proofs.Common.{None, Result, Ok, Err, refl, ap, arith}
use Rattle.rt_lex.specs.Token.{Token}
use Rattle.rt_ids.specs.declared.limit.Limit.{Limit}
use Rattle.std.specs.Prelude.{IfOk}
use Rattle.rt_parse.specs.Inside.Reading.{Reader, GivesRead, ◌>>=◌, token_at, take_meaning, unless_limited, repeat_at}
use Rattle.rt_parse.specs.Inside.Reading.{begins_with}
use Rattle.rt_parse.specs.declared.stop.Stop.{Stop}
use Rattle.rt_parse.specs.declared.stop.Found.{Found}

abbrev pub IsShorter : {A : Type 0} → Reader A → Type 0
IsShorter {A} reader = (tokens : List Token) (x : A) (rest : List Token) → reader tokens ≡ Ok (x, rest)
    → length rest < length tokens

abbrev pub IsNoLonger : {A : Type 0} → Reader A → Type 0
IsNoLonger {A} reader = (tokens : List Token) (x : A) (rest : List Token) → reader tokens ≡ Ok (x, rest)
    → length rest ≤ length tokens

pub bind_ok : {A B E : Type 0} (r : Result A E) (f : A → Result B E) (y : B) → (r >>= f) ≡ Ok y → (x : A) × (r ≡ Ok x)
    × (f x ≡ Ok y)
bind_ok (Ok x) f y e = (x, refl, e)
bind_ok (Err e') f y e = absurd cc

pub shorter_no_longer : {A : Type 0} {reader : Reader A} → IsShorter reader → IsNoLonger reader
shorter_no_longer h tokens x rest e = let k = h tokens x rest e in omega arith

pub shorter_then : {A B : Type 0} {reader : Reader A} {next : A → Reader B} → IsShorter reader
    → ((x : A) → IsNoLonger (next x)) → IsShorter (λ tokens. reader tokens >>= λ got. next got.0 got.1)
shorter_then {reader = reader} {next = next} h k tokens y rest e =
    let p = bind_ok (reader tokens) (λ got. next got.0 got.1) (y, rest) e in
    let a = h tokens p.0.0 p.0.1 p.1 in
    let b = k p.0.0 p.0.1 y rest p.2 in
    omega arith

pub no_longer_then : {A B : Type 0} {reader : Reader A} {next : A → Reader B} → IsNoLonger reader
    → ((x : A) → IsNoLonger (next x)) → IsNoLonger (λ tokens. reader tokens >>= λ got. next got.0 got.1)
no_longer_then {reader = reader} {next = next} h k tokens y rest e =
    let p = bind_ok (reader tokens) (λ got. next got.0 got.1) (y, rest) e in
    let a = h tokens p.0.0 p.0.1 p.1 in
    let b = k p.0.0 p.0.1 y rest p.2 in
    omega arith

abbrev gave : {A : Type 0} → A → List Token → Result (A × List Token) Found
gave x tokens = Ok (x, tokens)

abbrev rest_of : {A : Type 0} → Result (A × List Token) Found → List Token
rest_of (Ok x) = x.1
rest_of (Err e) = []

pub same_rest : {A : Type 0} (x y : A) (tokens rest : List Token) → gave x tokens ≡ gave y rest → tokens ≡ rest
same_rest x y tokens rest e = ap rest_of e

abbrev only_rest : Result (List Token) Found → List Token
only_rest (Ok tokens) = tokens
only_rest (Err e) = []

abbrev leaves : List Token → Result (List Token) Found
leaves tokens = Ok tokens

pub rest_is : (tokens rest : List Token) → leaves tokens ≡ leaves rest → tokens ≡ rest
rest_is tokens rest e = ap only_rest e

-- nothing is taken
pub no_longer_ok : {A : Type 0} (x : A) → IsNoLonger (λ tokens. Ok (x, tokens))
no_longer_ok x tokens y rest e = let same = same_rest x y tokens rest e in omega (arith, ap length same)

-- nothing is read
abbrev errs : (A : Type 0) → (List Token → Found) → Reader A
errs A why tokens = Err (why tokens)

pub shorter_err : (A : Type 0) (why : List Token → Found) → IsShorter (errs A why)
shorter_err A why tokens x rest e = absurd cc

pub shorter_if : {A : Type 0} (test : List Token → Bool) (one other : Reader A) → IsShorter one → IsShorter other
    → IsShorter (λ tokens. cond (test tokens) (one tokens) (other tokens))
shorter_if test one other h k tokens x rest e = by_test (test tokens) e
  where
    by_test : (b : Bool) → cond b (one tokens) (other tokens) ≡ Ok (x, rest) → length rest < length tokens
    by_test true e = h tokens x rest e
    by_test false e = k tokens x rest e

pub no_longer_if : {A : Type 0} (test : List Token → Bool) (one other : Reader A) → IsNoLonger one → IsNoLonger other
    → IsNoLonger (λ tokens. cond (test tokens) (one tokens) (other tokens))
no_longer_if test one other h k tokens x rest e = by_test (test tokens) e
  where
    by_test : (b : Bool) → cond b (one tokens) (other tokens) ≡ Ok (x, rest) → length rest ≤ length tokens
    by_test true e = h tokens x rest e
    by_test false e = k tokens x rest e

pub shorter_token : {A : Type 0} (meaning : Token → Option A) (limit : A → Option Limit)
    → IsShorter (token_at meaning limit)
unfolding token_at
shorter_token meaning limit [] x rest e = absurd cc
shorter_token {A} meaning limit (t ∷ tokens) x rest e = of_meaning (meaning t) e
  where
    of_limit : (what : Option Limit) (y : A) → unless_limited t.at what y tokens ≡ Ok (x, rest)
        → length rest < length (t ∷ tokens)
    of_limit None y e = let same = same_rest y x tokens rest e in omega (arith, ap length same)
    of_limit (Some what) y e = absurd cc

    of_meaning : (m : Option A) → take_meaning m limit t tokens ≡ Ok (x, rest) → length rest < length (t ∷ tokens)
    of_meaning None e = absurd cc
    of_meaning (Some y) e = of_limit (limit y) y e

pub no_longer_repeat : {S : Type 0} (starts : Token → Bool) (step : S → Reader S) → ((s : S) → IsNoLonger (step s))
    → (n : ℕ) (s : S) → IsNoLonger (repeat_at starts step n s)
unfolding repeat_at
no_longer_repeat starts step h zero s = no_longer_ok s
no_longer_repeat starts step h (suc n) s = no_longer_if (begins_with starts) _ _
    (no_longer_then (h s) (λ x. no_longer_repeat starts step h n x)) (no_longer_ok s)

-- what a reader of the code gave comes after a token at least
pub given_shorter : {A : Type 0} {reader : Reader A} → IsShorter reader
    → (tokens : List Token) (result : Result (A × List Token) Stop) → GivesRead (λ x. x) result (reader tokens)
    → IfOk result (λ x. length x.1 < length tokens)
given_shorter h tokens (Ok x) given = h tokens x.0 x.1 given
given_shorter h tokens (Err e) given = tt

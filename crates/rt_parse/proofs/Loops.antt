-- A loop of the parser and the repetition that it reads.
use Rattle.std.proofs.Common.{◌≡◌, ℕ, zero, suc, ◌<◌, ◌≤◌, Bool, true, false, List, [], ◌∷◌, length, Result, Ok, Err}
use Rattle.std.proofs.Common.{refl, sym, ◌∙◌, arith}
use Rattle.rt_lex.specs.Token.{Token}
use Rattle.rt_parse.specs.Inside.Reading.{Reader, ◌>>=◌, Stops, repeat_at, begins_with}
use Rattle.rt_parse.specs.declared.stop.Stop.{Stop}
use Rattle.rt_parse.specs.declared.stop.Stop.TheVariants as stop
use Rattle.rt_parse.specs.declared.stop.Found.{Found}
use Rattle.rt_parse.proofs.Shorter.{IsShorter}

-- a loop has come to this state and these tokens, from a start
pub record IsUnderWay {S : Type 0} (starts : Token → Bool) (step : S → Reader S) (s : S) (rest : List Token) (start : S)
    (all : List Token) : Type 0 where
  pub turns : ℕ
  pub enough : length rest ≤ turns
  pub goes : repeat_at starts step turns s rest ≡ repeat_at starts step (length all) start all

some_token : (starts : Token → Bool) (rest : List Token) → begins_with starts rest ≡ true → 0 < length rest
some_token starts [] e = absurd cc
some_token starts (t ∷ rest) e = omega arith

pub turn : {S : Type 0} (starts : Token → Bool) (step : S → Reader S) (n : ℕ) (s : S) (rest : List Token)
    (r : Result (S × List Token) Found) → begins_with starts rest ≡ true → step s rest ≡ r
    → repeat_at starts step (suc n) s rest ≡ (r >>= λ x. repeat_at starts step n x.0 x.1)
unfolding repeat_at
turn starts step n s rest r open_ e = rw (open_, e) refl

module _ {S : Type 0} (starts : Token → Bool) (step : S → Reader S) (s : S) (rest : List Token) (start : S)
    (all : List Token) where
  pub goes_on : (t : S) (behind : List Token) → IsShorter (step s) → begins_with starts rest ≡ true → step s rest
      ≡ Ok (t, behind) → IsUnderWay starts step s rest start all → IsUnderWay starts step t behind start all
  goes_on t behind shorter open_ e so = of_turns so.turns so.enough so.goes
    where
      of_turns : (n : ℕ) → length rest ≤ n → repeat_at starts step n s rest
          ≡ repeat_at starts step (length all) start all → IsUnderWay starts step t behind start all
      of_turns zero enough goes = absurd (omega (arith, some_token starts rest open_))
      of_turns (suc n) enough goes =
          record {
            turns = n;
            enough = omega (arith, shorter rest t behind e);
            goes =
                sym (turn starts step n s rest (Ok (t, behind)) open_ e) ∙ goes;
          }

  pub stops : (why : Stop) → begins_with starts rest ≡ true → Stops why (step s rest)
      → IsUnderWay starts step s rest start all → Stops why (repeat_at starts step (length all) start all)
  stops stop.Memory open_ e so = tt
  stops (stop.At found) open_ e so = of_turns so.turns so.enough so.goes
    where
      of_turns : (n : ℕ) → length rest ≤ n → repeat_at starts step n s rest
          ≡ repeat_at starts step (length all) start all → repeat_at starts step (length all) start all ≡ Err found
      of_turns zero enough goes = absurd (omega (arith, some_token starts rest open_))
      of_turns (suc n) enough goes = sym goes ∙ turn starts step n s rest (Err found) open_ e

  pub ended : begins_with starts rest ≡ false → IsUnderWay starts step s rest start all
      → repeat_at starts step (length all) start all ≡ Ok (s, rest)
  unfolding repeat_at
  ended closed so = sym so.goes ∙ of_turns so.turns
    where
      of_turns : (n : ℕ) → repeat_at starts step n s rest ≡ Ok (s, rest)
      of_turns zero = refl
      of_turns (suc n) = rw closed refl

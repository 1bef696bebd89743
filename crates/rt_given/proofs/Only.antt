-- The only one of some inputs, by how many they are and by the first of them.
use Rattle.std.proofs.Common.{◌≡◌, ◌<◌, Bool, true, false, cond, List, [], ◌∷◌, filter, find, length, option_map}
use Rattle.std.proofs.Common.{Some, Err}
use Rattle.std.proofs.Common.{refl, arith}
use Rattle.std.specs.Option.{ok_or}
use Rattle.rt_board.specs.declared.board.Input.{Input}
use Rattle.rt_given.specs.Wording.{only_local}
use Rattle.rt_given.specs.declared.refusal.Cause.TheVariants as cause

pub only_many : (inputs : List Input) → 1 < length inputs → Err cause.ManyInputs ≡ only_local inputs
only_many [] many = absurd (omega (arith, many))
only_many (input ∷ []) many = absurd (omega (arith, many))
only_many (input ∷ other ∷ more) many = refl

pub only_first : (test : Input → Bool) (inputs : List Input) → ¬ (1 < length (filter test inputs))
    → ok_or (option_map (λ (input : Input). input.local) (find test inputs)) cause.NoInput
    ≡ only_local (filter test inputs)
only_first test [] few = refl
only_first test (input ∷ inputs) few = by (test input) few (only_first test inputs)
  where
    alone : (others : List Input) → ¬ (1 < length (input ∷ others)) → ok_or (Some input.local) cause.NoInput
        ≡ only_local (input ∷ others)
    alone [] few = refl
    alone (other ∷ more) few = absurd (few (omega arith))

    by : (b : Bool) → ¬ (1 < length (cond b (input ∷ filter test inputs) (filter test inputs)))
        → (¬ (1 < length (filter test inputs))
        → ok_or (option_map (λ (i : Input). i.local) (find test inputs)) cause.NoInput
        ≡ only_local (filter test inputs))
        → ok_or (option_map (λ (i : Input). i.local) (cond b (Some input) (find test inputs))) cause.NoInput
        ≡ only_local (cond b (input ∷ filter test inputs) (filter test inputs))
    by true few rest = alone (filter test inputs) few
    by false few rest = rest few

-- What can happen beside some inputs can beside more of them; so an image that behaves well beside more behaves well
-- beside some.
use Rattle.std.proofs.Common.{ℕ, zero, suc, Bool, List, [], ◌∷◌, ◌++◌}
use Rattle.rt_ids.specs.Choice.{IsIn}
use Rattle.rt_code.specs.Image.{Image}
use Rattle.rt_native.specs.declared.target.Input.{Input}
use Rattle.rt_native_laws.specs.Behaving.{BehavesWell, StaysGood}
use Rattle.rt_native_laws.specs.Moments.{AllCanHappen, Comes, Fills, Happening, Loads, Moment, Puts, at_reset}
use Rattle.rt_native_laws.specs.Moments.{moment_after}

-- what is among some is among more
in_front : {A : Type 0} (xs ys : List A) (x : A) → IsIn xs x → IsIn (xs ++ ys) x
in_front [] ys x (zero, is) = cc
in_front [] ys x (suc i, is) = cc
in_front (y ∷ xs) ys x (zero, is) = (zero, is)
in_front (y ∷ xs) ys x (suc i, is) = let there = in_front xs ys x (i, is) in (suc there.0, there.1)

module _ (img : Image) (inputs more : List Input) where
  pub can_beside_more : (s : Moment) (happened : List Happening) → AllCanHappen img inputs s happened
      → AllCanHappen img (inputs ++ more) s happened
  can_beside_more s [] can = tt
  can_beside_more s (Comes event ∷ rest) can =
      (tt, can_beside_more (moment_after img s (Comes event)) rest can.1)
  can_beside_more s (Fills words ∷ rest) can =
      (can.0, can_beside_more (moment_after img s (Fills words)) rest can.1)
  can_beside_more s (Loads input word ∷ rest) can = (
    record {
      among = in_front inputs more input can.0.among;
      begun = can.0.begun;
      small = can.0.small;
    },
    can_beside_more (moment_after img s (Loads input word)) rest can.1,
  )
  can_beside_more s (Puts cell word ∷ rest) can = (
    record {
      input = can.0.input;
      among = in_front inputs more can.0.input can.0.among;
      for_cell = can.0.for_cell;
      begun = can.0.begun;
      small = can.0.small;
    },
    can_beside_more (moment_after img s (Puts cell word)) rest can.1,
  )

  pub good_beside_fewer : (ceiling : ℕ) (fits : List Happening → Bool) (s : Moment)
      → StaysGood img (inputs ++ more) ceiling fits s → StaysGood img inputs ceiling fits s
  good_beside_fewer ceiling fits s stays happened can fit = stays happened (can_beside_more s happened can) fit

  abbrev pub well_beside_fewer : (fits : List Happening → Bool) → BehavesWell img (inputs ++ more) fits
      → BehavesWell img inputs fits
  well_beside_fewer fits well = record {
    frames = well.frames;
    ceiling = well.ceiling;
    moments = good_beside_fewer well.ceiling fits (at_reset img) well.moments;
  }

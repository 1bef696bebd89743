-- Laws of sums.
use Rattle.std.specs.Prelude.{◌≡◌, ℕ, ◌+◌, ◌≤◌, Option, Some, slice_get}
use Rattle.rt_code.specs.Image.{Image}
use Rattle.rt_code.specs.declared.instr.Instr.{Instr}
use Rattle.rt_code.specs.declared.instr.Note.{Note}
use Rattle.rt_native.specs.Layout.{outside, places}
use Rattle.rt_native.specs.Sequences.{sequence}
use Rattle.rt_native.specs.Target.{Target}
use Rattle.rt_cycles.specs.Sums.{cycles_of, leaving, step_cycles}

-- In the program of an image for any target each instruction costs no more than a step at most: no address counts.
abbrev pub StepsHoldForEachTarget : Type 0
StepsHoldForEachTarget =
    (img : Image) (target : Target) (n : ℕ) (line : Instr × Option Note) → slice_get img.code n ≡ Some line
    → cycles_of (sequence (outside img target) img (places img target) n line.0) + leaving line.0 ≤ step_cycles img

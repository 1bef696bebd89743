-- The code of a choice between two blocks while it is made: its jumps are there before it is known where they lead.
use Rattle.std.specs.Prelude.{◌≡◌, ℕ, ◌+◌, List, [], ◌∷◌, ◌++◌, length, slice_set}
use Rattle.rt_code.specs.declared.instr.Instr.TheVariants as instr
use Rattle.rt_gen_queue.specs.Line.{Line, plain}
use Rattle.rt_gen_queue.specs.Making.{Made, next_address}
use Rattle.rt_gen_body.specs.ValueCode.{Context}

-- code is longer by these lines, and the jump at an index of it leads past them
abbrev pub EndsWith : Made → Made → ℕ → List Line → Type 0
EndsWith before after over lines =
    after
    ≡ record before {
      lines = slice_set (before.lines ++ lines) over (plain (instr.Jump (next_address before + length lines)));
    }

-- the first of two blocks, with a jump that leads past it, and one that is still to lead past the second
abbrev pub first_code : Context → ℕ → List Line → List Line
first_code c at block =
    plain (instr.JumpZ c.expressions (at + 1 + length block + 1)) ∷ (block ++ plain (instr.Jump 0) ∷ [])

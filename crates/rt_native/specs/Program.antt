-- The program of an image: a vector table, instructions, and first values; and the bytes of each.
use Rattle.std.specs.Prelude.{ℕ, ◌+◌, ◌-◌, ◌^◌, ◌==◌, Bool, false, List, [], ◌∷◌, ◌++◌, flat_map, map, replicate}
use Rattle.std.specs.Prelude.{position, slice_index, Option, Some, None}
use Rattle.std.specs.Int.{w16, to_le_bytes}
use Rattle.std.specs.List.{range_with_len}
use Rattle.std.specs.Option.{option_map_or}
use Rattle.rt_ids.specs.Operation.{wrapped_number as word}
use Rattle.rt_code.specs.Image.{Image}
use Rattle.rt_code.specs.declared.image.Handler.{Handler}
use Rattle.rt_code.specs.declared.instr.Instr.{Instr}
use Rattle.rt_code.specs.declared.instr.Note.{Note}
use Rattle.rt_elf.specs.Word.{words}
use Rattle.rt_thumb.specs.Encoding.{encode}
use Rattle.rt_thumb.specs.declared.instruction.Halfwords.{Halfwords}
use Rattle.rt_thumb.specs.declared.instruction.Halfwords.TheVariants as halfwords
use Rattle.rt_thumb.specs.declared.instruction.Instruction.{Instruction}
use Rattle.rt_native.specs.Layout.{line_count, stack_top, outside, places, fault_at, tick_at, reset_at, code_end}
use Rattle.rt_native.specs.Layout.{stub_places, load_at}
use Rattle.rt_native.specs.Sequences.{sequence}
use Rattle.rt_native.specs.Service.{fault, tick, timer_irq, entrances_from, reset}
use Rattle.rt_native.specs.Target.{Target}

-- an interrupt of this number is enabled
abbrev pub is_line : ℕ → ℕ → Option Handler → Bool
is_line n irq None = false
is_line n irq (Some h) = irq == n

-- first values: of cells, of the time, and that there is no alarm
abbrev pub first_values : Image → List ℕ
first_values img = map (λ cell. cell.first) img.cells ++ 0 ∷ (2 ^ 32 - 1) ∷ []

module _ (img : Image) (target : Target) where
  -- where an external interrupt is served: by what the first row that enables it has, else as a fault
  abbrev pub served_at : ℕ → ℕ
  served_at n =
      option_map_or (λ k. slice_index (stub_places img target) k)
      (position (λ row. is_line n row.number row.handler) img.irqs) (fault_at img target)

  -- the vectors of external interrupts
  abbrev pub line_vectors : List ℕ
  line_vectors = map (λ n. word (served_at n + 1)) (range_with_len 0 (line_count img.irqs))

  -- the vector table: SP at first, and addresses with bit 0 set (ARMv7-M Architecture Reference Manual, section
  -- B1.5.3): reset, the exceptions 2 to 14, SysTick, external interrupts
  abbrev pub vectors : List ℕ
  vectors =
      stack_top img target ∷ word (reset_at img target + 1) ∷ replicate 13 (word (fault_at img target + 1))
      ++ word (tick_at img target + 1) ∷ line_vectors

  -- the sequences of instructions, the first of which has this address in the image
  abbrev pub sequences_from : ℕ → List (Instr × Option Note) → List Instruction
  sequences_from n [] = []
  sequences_from n (line ∷ more) =
      sequence (outside img target) img (places img target) n line.0 ++ sequences_from (n + 1) more

  -- all instructions
  abbrev pub instructions : List Instruction
  instructions =
      let at = outside img target in
      fault ++ tick at (timer_irq img.code)
      ++ entrances_from at target (places img target) (stub_places img target) 0 img.irqs
      ++ reset at target.tick img (load_at img target) ++ sequences_from 0 img.code

  -- bytes of 0 up to where first values lie
  abbrev pub padding : List ℕ
  padding = replicate (load_at img target - code_end img target) 0

-- halfwords lie with the lowest byte first, the first of two at the lower address (section A5.1)
abbrev pub bytes_of_halfwords : Halfwords → List ℕ
bytes_of_halfwords (halfwords.Short a) = to_le_bytes w16 a
bytes_of_halfwords (halfwords.Wide a b) = to_le_bytes w16 a ++ to_le_bytes w16 b

-- the bytes of code in flash
abbrev pub text : Image → Target → List ℕ
text img target =
    words (vectors img target) ++ flat_map (λ i. bytes_of_halfwords (encode i)) (instructions img target)
    ++ padding img target

-- the bytes of data
abbrev pub values : Image → List ℕ
values img = words (first_values img)

-- The slots that an instruction names, and whether cells or slots are there.
use Rattle.std.specs.Prelude.{ℕ, Bool, nat_lt, List, [], ◌∷◌, length}
use Rattle.std.specs.List.{list_all}
use Rattle.rt_code.specs.declared.instr.Instr.{Instr}
use Rattle.rt_code.specs.declared.instr.Instr.TheVariants as instr

-- the slots that an instruction names
abbrev pub slots_of : Instr → List ℕ
slots_of (instr.Set d v) = d ∷ []
slots_of (instr.Copy d s) = d ∷ s ∷ []
slots_of (instr.Calc op d a b) = d ∷ a ∷ b ∷ []
slots_of (instr.Load d c) = d ∷ []
slots_of (instr.Store c s) = s ∷ []
slots_of (instr.LoadAt d c s) = d ∷ s ∷ []
slots_of (instr.StoreAt c s a) = s ∷ a ∷ []
slots_of (instr.JumpZ s l) = s ∷ []
slots_of (instr.Emit s) = s ∷ []
slots_of (instr.Clock d) = d ∷ []
slots_of (instr.Alarm s irq) = s ∷ []
slots_of (instr.Raise d v) = d ∷ []
slots_of (instr.Restore s) = s ∷ []
slots_of (instr.Mask d) = d ∷ []
slots_of (instr.Unmask s) = s ∷ []
slots_of i = []

-- whether all of these indices are within the words
abbrev pub are_there : List ℕ → List ℕ → Bool
are_there indices words = list_all (λ index. nat_lt index (length words)) indices

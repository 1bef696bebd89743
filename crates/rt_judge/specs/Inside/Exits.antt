-- The addresses that an instruction leads to, as a list, and where the thread goes on.
use Rattle.std.specs.Prelude.{ℕ, suc, Bool, true, false, List, [], ◌∷◌}
use Rattle.rt_code.specs.declared.instr.Instr.{Instr}
use Rattle.rt_code.specs.declared.instr.Instr.TheVariants as instr
use Rattle.rt_points.specs.declared.point.Owner.{Owner}
use Rattle.rt_points.specs.declared.point.Owner.TheVariants.{Starting}
use Rattle.rt_judge.specs.declared.exits.Exits.{Exits}
use Rattle.rt_judge.specs.declared.exits.Exits.TheVariants.{Nowhere, One, Two}

-- the addresses of exits, as a list
abbrev pub exit_list : Exits → List ℕ
exit_list Nowhere = []
exit_list (One a) = a ∷ []
exit_list (Two a b) = a ∷ b ∷ []

-- the addresses that an instruction at an address leads to, of which a call has none
abbrev pub targets : Instr → ℕ → List ℕ
targets (instr.Jump l) at = l ∷ []
targets (instr.JumpZ s l) at = suc at ∷ l ∷ []
targets instr.Wait at = at ∷ []
targets (instr.Call row s) at = []
targets instr.Back at = []
targets instr.Ret at = []
targets i at = suc at ∷ []

-- whether an instruction is the end of `init`, which serves interrupts
abbrev pub ends_init : Instr → Owner → Bool
ends_init instr.Serve Starting = true
ends_init i owner = false

-- The execution priority by the code's parts, and the instructions that change it.
use Rattle.std.specs.Prelude.{ℕ, Bool, true, false, min}
use Rattle.rt_code.specs.declared.instr.Instr.{Instr}
use Rattle.rt_code.specs.declared.instr.Instr.TheVariants as instr
use Rattle.rt_code.specs.declared.processor.Registers.{Registers}
use Rattle.rt_nvic.specs.Nvic.{Nvic, value_of_running}
use Rattle.rt_core.specs.Priority.{base_value, mask_value}

-- the least of the value of the handler that runs and of what the masks hold it to
abbrev pub execution_of : Nvic → Registers → ℕ
execution_of n r = min (value_of_running n) (min (base_value r.basepri) (mask_value r.primask))

-- the instructions that change BASEPRI or PRIMASK
abbrev pub changes_a_mask : Instr → Bool
changes_a_mask (instr.Raise slot value) = true
changes_a_mask (instr.Restore slot) = true
changes_a_mask (instr.Mask slot) = true
changes_a_mask (instr.Unmask slot) = true
changes_a_mask instr.Serve = true
changes_a_mask i = false

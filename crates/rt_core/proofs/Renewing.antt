-- The execution priority that the core keeps is that of the core, and instructions that change no mask keep it.
use Rattle.std.proofs.Common.{◌≡◌, ◌==◌, ℕ, Bool, true, false, not, min, if◌then◌else◌, List, [], ◌∷◌, length, refl}
use Rattle.std.proofs.Common.{sym, ap, ap₂, subst, ◌∙◌, arith}
use Rattle.rt_code.specs.Access.{cells_of}
use Rattle.rt_code.specs.Effect.{slot, next, unchecked_effect, effect}
use Rattle.rt_code.specs.Operands.{slots_of, are_there}
use Rattle.rt_code.specs.Processor.{Processor, Effect, Traps, Leads, processor}
use Rattle.rt_code.specs.declared.instr.Instr.{Instr}
use Rattle.rt_code.specs.declared.instr.Instr.TheVariants as instr
use Rattle.rt_code.specs.declared.processor.Registers.{Registers}
use Rattle.rt_code.specs.declared.processor.Request.{Request}
use Rattle.rt_code.specs.declared.processor.Request.TheVariants as request
use Rattle.rt_code.specs.declared.processor.Trap.{Trap}
use Rattle.rt_code.specs.declared.processor.Trap.TheVariants as trap
use Rattle.rt_context.specs.Frames.{Saved}
use Rattle.rt_nvic.specs.Nvic.{Nvic, value_of_first, value_of_running}
use Rattle.rt_core.specs.declared.machine.Core.TheInside.{Inside}
use Rattle.rt_core.specs.Priority.{running_value, base_value, mask_value, execution}
use Rattle.rt_core.specs.Inside.Execution.{changes_a_mask, execution_of}
use Rattle.rt_core.specs.Inside.Parts.{contexts, core, IsSound}

running_is : (n : Nvic) (active : List ℕ) (below : List Saved) → length active ≡ length below → value_of_first n active
    ≡ running_value (contexts n.priorities active below)
running_is n [] below long = refl
running_is n (irq ∷ active) [] long = absurd (omega (arith, long))
running_is n (irq ∷ active) (s ∷ below) long = refl

-- the kept priority is the execution priority
pub kept_is : (c : Inside) → IsSound c → c.execution ≡ execution (core c)
kept_is c sound =
    sound.execution
    ∙ ap (λ r. min r (min (base_value c.registers.basepri) (mask_value c.registers.primask)))
    (running_is c.nvic c.nvic.active c.frames.below sound.active)

-- where an effect leads, the masks are as they were
abbrev KeepsMasks : Processor → Effect → Type 0
KeepsMasks p (Traps t) = Unit {0}
KeepsMasks p (Leads q asked) = (q.basepri ≡ p.basepri) × (q.primask ≡ p.primask)

tested_keeps : (b : Bool) (p : Processor) (t : Trap) (e : Effect) → KeepsMasks p e
    → KeepsMasks p (if not b then Traps t else e)
tested_keeps true p t e h = h
tested_keeps false p t e h = tt

jump_keeps : (b : Bool) (p : Processor) (l : ℕ) → KeepsMasks p
    (Leads (if b then record p { address = l } else next p) request.Nothing)
jump_keeps true p l = (refl, refl)
jump_keeps false p l = (refl, refl)

done_keeps : (i : Instr) (time : ℕ) (p : Processor) → changes_a_mask i ≡ false
    → KeepsMasks p (unchecked_effect i time p)
done_keeps (instr.JumpZ s l) time p h = jump_keeps (slot p s == 0) p l
done_keeps (instr.Raise d v) time p h = absurd (cc)
done_keeps (instr.Restore s) time p h = absurd (cc)
done_keeps (instr.Mask d) time p h = absurd (cc)
done_keeps (instr.Unmask s) time p h = absurd (cc)
done_keeps instr.Serve time p h = absurd (cc)
done_keeps i time p h = (refl, refl)

-- an instruction that changes no mask
masks_kept : (i : Instr) (time : ℕ) (p q : Processor) (asked : Request) → changes_a_mask i ≡ false → effect i time p
    ≡ Leads q asked
    → (q.basepri ≡ p.basepri) × (q.primask ≡ p.primask)
masks_kept i time p q asked h leads =
    subst (KeepsMasks p) leads
    (tested_keeps (are_there (cells_of i p) p.cells) p trap.Address
    (if not (are_there (slots_of i) p.slots) then Traps trap.Stack else unchecked_effect i time p)
    (tested_keeps (are_there (slots_of i) p.slots) p trap.Stack (unchecked_effect i time p) (done_keeps i time p h)))

-- where an instruction changes no mask, the execution priority is as it was
pub execution_kept : (n : Nvic) (i : Instr) (time : ℕ) (r s : Registers) (slots cells slots' cells' : List ℕ)
    (asked : Request) → changes_a_mask i ≡ false
    → effect i time (processor r slots cells) ≡ Leads (processor s slots' cells') asked → execution_of n r
    ≡ execution_of n s
execution_kept n i time r s slots cells slots' cells' asked h leads =
    let kept = masks_kept i time (processor r slots cells) (processor s slots' cells') asked h leads in
    ap₂ (λ b m. min (value_of_running n) (min (base_value b) (mask_value m))) (sym kept.0) (sym kept.1)

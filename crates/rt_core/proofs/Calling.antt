-- An instruction that calls a body leaves the processor as it was.
use Rattle.std.proofs.Common.{◌≡◌, ℕ, Bool, true, false, not, nat_le, ◌==◌, if◌then◌else◌, refl, subst}
use Rattle.rt_code.specs.Access.{cells_of}
use Rattle.rt_code.specs.Effect.{slot, next, unchecked_effect, effect}
use Rattle.rt_code.specs.Operands.{slots_of, are_there}
use Rattle.rt_code.specs.Processor.{Processor, Effect, Traps, Leads}
use Rattle.rt_code.specs.declared.instr.Instr.{Instr}
use Rattle.rt_code.specs.declared.instr.Instr.TheVariants as instr
use Rattle.rt_code.specs.declared.processor.Request.TheVariants as request
use Rattle.rt_code.specs.declared.processor.Trap.{Trap}
use Rattle.rt_code.specs.declared.processor.Trap.TheVariants as trap

-- where an effect calls a body, the processor is as it was
abbrev StaysAtCall : Processor → Effect → Type 0
StaysAtCall p (Leads q (request.Call row from)) = q ≡ p
StaysAtCall p e = Unit {0}

tested_stays : (b : Bool) (p : Processor) (t : Trap) (e : Effect) → StaysAtCall p e
    → StaysAtCall p (if not b then Traps t else e)
tested_stays true p t e h = h
tested_stays false p t e h = tt

unmask_stays : (b : Bool) (p q : Processor) → StaysAtCall p (if b then Leads q request.Nothing else Traps trap.Stack)
unmask_stays true p q = tt
unmask_stays false p q = tt

done_stays : (i : Instr) (time : ℕ) (p : Processor) → StaysAtCall p (unchecked_effect i time p)
done_stays (instr.Unmask s) time p = unmask_stays (nat_le (slot p s) 1) p (record (next p) { primask = slot p s == 1 })
done_stays (instr.Call row from) time p = refl
done_stays i time p = tt

pub call_stays : (i : Instr) (time : ℕ) (p q : Processor) (row from : ℕ) → effect i time p
    ≡ Leads q (request.Call row from) → q ≡ p
call_stays i time p q row from leads =
    subst (StaysAtCall p) leads
    (tested_stays (are_there (cells_of i p) p.cells) p trap.Address
    (if not (are_there (slots_of i) p.slots) then Traps trap.Stack else unchecked_effect i time p)
    (tested_stays (are_there (slots_of i) p.slots) p trap.Stack (unchecked_effect i time p) (done_stays i time p)))

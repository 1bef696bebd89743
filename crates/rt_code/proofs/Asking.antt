-- What an instruction that leads on asks of the core.
use Rattle.std.proofs.Common.{◌≡◌, ℕ, ◌==◌, nat_le, Bool, true, false, None, refl, if◌then◌else◌}
use Rattle.rt_code.specs.Access.{access_of, cells_of}
use Rattle.rt_code.specs.Effect.{effect, unchecked_effect, slot, next}
use Rattle.rt_code.specs.Masking.{opening_instr, closing_instr}
use Rattle.rt_code.specs.Operands.{slots_of, are_there}
use Rattle.rt_code.specs.Owning.{SectionKind, Marked, Raised, Masked}
use Rattle.rt_code.specs.Processor.{Processor, Effect, Traps, Leads}
use Rattle.rt_code.specs.declared.instr.Instr.{Instr}
use Rattle.rt_code.specs.declared.instr.Instr.TheVariants as instr
use Rattle.rt_code.specs.declared.processor.Request.{Request}
use Rattle.rt_code.specs.declared.processor.Request.TheVariants as request
use Rattle.rt_code.specs.declared.processor.Trap.TheVariants as trap
use Rattle.rt_code.proofs.Done.{tested}

of_tested : (b s : Bool) (e : Effect) (q : Processor) (asked : Request) → tested e b s ≡ Leads q asked → e
    ≡ Leads q asked
of_tested true true e q asked h = h
of_tested true false e q asked h = absurd (cc)
of_tested false s e q asked h = absurd (cc)

-- an instruction that leads on does what it does
pub done_leads : (i : Instr) (time : ℕ) (p q : Processor) (asked : Request) → effect i time p ≡ Leads q asked
    → unchecked_effect i time p ≡ Leads q asked
done_leads i time p q asked h = of_tested (are_there (cells_of i p) p.cells) (are_there (slots_of i) p.slots)
    (unchecked_effect i time p) q asked h

unmask_asks : (b set : Bool) (p q : Processor) (asked : Request)
    → (if b then Leads (record p { primask = set }) request.Nothing else Traps trap.Stack) ≡ Leads q asked
    → asked ≡ request.Nothing
unmask_asks true set p q asked h = cc
unmask_asks false set p q asked h = absurd (cc)

unmask_done : (s time : ℕ) (p q : Processor) (asked : Request) → unchecked_effect (instr.Unmask s) time p
    ≡ Leads q asked → asked ≡ request.Nothing
unmask_done s time p q asked h = unmask_asks (nat_le (slot p s) 1) (slot p s == 1) (next p) q asked h

-- the clock answers the time
clock_done : (i : Instr) (time t : ℕ) (p q : Processor) → unchecked_effect i time p ≡ Leads q (request.Clock t) → t
    ≡ time
clock_done (instr.Clock d) time t p q h = cc
clock_done (instr.Unmask s) time t p q h = absurd (let e = unmask_done s time p q (request.Clock t) h in cc)
clock_done i time t p q h = absurd (cc)

pub clock_time : (i : Instr) (time t : ℕ) (p q : Processor) → effect i time p ≡ Leads q (request.Clock t) → t ≡ time
clock_time i time t p q h = clock_done i time t p q (done_leads i time p q (request.Clock t) h)

-- a call and a return leave the processor to the core
call_done : (i : Instr) (time row from : ℕ) (p q : Processor) → unchecked_effect i time p
    ≡ Leads q (request.Call row from) → q ≡ p
call_done (instr.Call r s) time row from p q h = cc
call_done (instr.Unmask s) time row from p q h = absurd (let e = unmask_done s time p q (request.Call row from) h in cc)
call_done i time row from p q h = absurd (cc)

pub call_stays : (i : Instr) (time row from : ℕ) (p q : Processor) → effect i time p ≡ Leads q (request.Call row from)
    → q ≡ p
call_stays i time row from p q h = call_done i time row from p q (done_leads i time p q (request.Call row from) h)

return_done : (i : Instr) (time : ℕ) (p q : Processor) → unchecked_effect i time p ≡ Leads q request.Return → q ≡ p
return_done instr.Ret time p q h = cc
return_done (instr.Unmask s) time p q h = absurd (let e = unmask_done s time p q request.Return h in cc)
return_done i time p q h = absurd (cc)

pub return_stays : (i : Instr) (time : ℕ) (p q : Processor) → effect i time p ≡ Leads q request.Return → q ≡ p
return_stays i time p q h = return_done i time p q (done_leads i time p q request.Return h)

-- what opens or closes a section asks nothing
pub opening_asks : (value : ℕ) (kind : SectionKind) (time : ℕ) (p q : Processor) (asked : Request)
    → effect (opening_instr value kind) time p ≡ Leads q asked → asked ≡ request.Nothing
opening_asks value Marked time p q asked h = cc
opening_asks value (Raised slot) time p q asked h = let e = done_leads (instr.Raise slot value) time p q asked h in cc
opening_asks value (Masked slot) time p q asked h = let e = done_leads (instr.Mask slot) time p q asked h in cc

pub closing_asks : (kind : SectionKind) (time : ℕ) (p q : Processor) (asked : Request)
    → effect (closing_instr kind) time p
    ≡ Leads q asked → asked ≡ request.Nothing
closing_asks Marked time p q asked h = cc
closing_asks (Raised slot) time p q asked h = let e = done_leads (instr.Restore slot) time p q asked h in cc
closing_asks (Masked slot) time p q asked h = unmask_done slot time p q asked
    (done_leads (instr.Unmask slot) time p q asked h)

-- neither touches memory
pub opening_touches : (value : ℕ) (kind : SectionKind) (p : Processor) → access_of (opening_instr value kind) p ≡ None
opening_touches value Marked p = refl
opening_touches value (Raised slot) p = refl
opening_touches value (Masked slot) p = refl

pub closing_touches : (kind : SectionKind) (p : Processor) → access_of (closing_instr kind) p ≡ None
closing_touches Marked p = refl
closing_touches (Raised slot) p = refl
closing_touches (Masked slot) p = refl

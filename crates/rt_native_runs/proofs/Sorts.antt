-- What an instruction leads to on its own: all but `call`, `back` and `ret` ask nothing of frames, and lead where the
-- code goes on.
use Rattle.std.proofs.Common.{◌≡◌, ◌⊎◌, ℕ, suc, ◌==◌, inl, inr, nat_le, Bool, true, false, Some, refl, sym, ap, subst}
use Rattle.std.proofs.Common.{if◌then◌else◌}
use Rattle.rt_code.specs.Effect.{unchecked_effect, slot, next}
use Rattle.rt_code.specs.Image.{Image}
use Rattle.rt_code.specs.Processor.{Processor, Effect, Traps, Leads}
use Rattle.rt_code.specs.declared.instr.Instr.{Instr}
use Rattle.rt_code.specs.declared.instr.Instr.TheVariants as instr
use Rattle.rt_code.specs.declared.processor.Request.{Request}
use Rattle.rt_code.specs.declared.processor.Request.TheVariants as request
use Rattle.rt_code.specs.declared.processor.Trap.TheVariants as trap
use Rattle.rt_core.specs.Core.{Core}
use Rattle.rt_native_laws.specs.Moments.{Moment, Went, after_instruction}
use Rattle.rt_points.specs.Leading.{LeadsOn}

-- an instruction that is no call, and ends no frame
abbrev pub IsOther : Instr → Type 0
IsOther (instr.Call row from) = ⊥
IsOther instr.Back = ⊥
IsOther instr.Ret = ⊥
IsOther i = Unit {0}

-- a request that asks for no frame
abbrev pub IsSimple : Request → Type 0
IsSimple (request.Call row from) = ⊥
IsSimple request.Back = ⊥
IsSimple request.Return = ⊥
IsSimple asked = Unit {0}

-- an instruction by what it does to frames
pub data KindOf (i : Instr) : Type 0 where
  ItCalls : (row : ℕ) → (from : ℕ) → i ≡ instr.Call row from → KindOf i
  ItComesBack : i ≡ instr.Back → KindOf i
  ItReturns : i ≡ instr.Ret → KindOf i
  ItIsOther : IsOther i → KindOf i

pub kind_of : (i : Instr) → KindOf i
kind_of (instr.Call row from) = ItCalls row from refl
kind_of instr.Back = ItComesBack refl
kind_of instr.Ret = ItReturns refl
kind_of i = ItIsOther tt

-- where an effect leads, and what it asks
abbrev address_of : Effect → ℕ
address_of (Traps t) = 0
address_of (Leads p asked) = p.address

abbrev asked_of : Effect → Request
asked_of (Traps t) = request.Nothing
asked_of (Leads p asked) = asked

unmask_asks : (b : Bool) (p q : Processor) (asked : Request)
    → (if b then Leads p request.Nothing else Traps trap.Stack) ≡ Leads q asked → (asked ≡ request.Nothing)
    × (q.address ≡ p.address)
unmask_asks true p q asked h = (sym (ap asked_of h), sym (ap address_of h))
unmask_asks false p q asked h = absurd (cc)

-- such an instruction asks for no frame
pub asks_simply : (i : Instr) → IsOther i → (time : ℕ) (p q : Processor) (asked : Request)
    → unchecked_effect i time p ≡ Leads q asked → IsSimple asked
asks_simply (instr.Call row from) other time p q asked h = absurd other
asks_simply instr.Back other time p q asked h = absurd other
asks_simply instr.Ret other time p q asked h = absurd other
asks_simply (instr.Unmask s) other time p q asked h =
    subst IsSimple (sym (unmask_asks (nat_le (slot p s) 1) (record (next p) { primask = slot p s == 1 }) q asked h).0)
    tt
asks_simply i other time p q asked h = subst IsSimple (ap asked_of h) tt

jumps : (b : Bool) (p q : Processor) (l : ℕ) (asked : Request)
    → Leads (if b then record p { address = l } else next p) request.Nothing ≡ Leads q asked
    → (q.address ≡ suc p.address) ⊎ (q.address ≡ l)
jumps true p q l asked h = inr (sym (ap address_of h))
jumps false p q l asked h = inl (sym (ap address_of h))

-- and leads where the code goes on
pub leads_on : (i : Instr) → IsOther i → (time : ℕ) (p q : Processor) (asked : Request)
    → unchecked_effect i time p ≡ Leads q asked → LeadsOn i p.address q.address
leads_on (instr.Call row from) other time p q asked h = absurd other
leads_on instr.Back other time p q asked h = absurd other
leads_on instr.Ret other time p q asked h = absurd other
leads_on (instr.JumpZ s l) other time p q asked h = jumps (slot p s == 0) p q l asked h
leads_on (instr.Unmask s) other time p q asked h =
    (unmask_asks (nat_le (slot p s) 1) (record (next p) { primask = slot p s == 1 }) q asked h).1
leads_on i other time p q asked h = sym (ap address_of h)

-- behind it a job has all words of its frame
pub goes_plainly : (img : Image) (s : Moment) (c : Core) (i : Instr) → IsOther i
    → after_instruction img s c (Some i) ≡ record s { core = c; last = Went }
goes_plainly img s c (instr.Call row from) other = absurd other
goes_plainly img s c instr.Back other = absurd other
goes_plainly img s c instr.Ret other = absurd other
goes_plainly img s c i other = refl

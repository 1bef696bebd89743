-- What single instructions lead to, where code that stands asks for them.
use Rattle.std.proofs.Common.{◌≡◌, ℕ, ◌<◌, ◌&&◌, true, List, [], ◌∷◌, length, slice_index, if◌then◌else◌, refl, ap, ◌∙◌}
use Rattle.std.specs.List.{AllByRecursion}
use Rattle.std.proofs.lemmas.Bool.{lt-ltb, le-leb}
use Rattle.rt_code.specs.Effect.{effect, slot}
use Rattle.rt_code.specs.Masking.{opening_instr, closing_instr}
use Rattle.rt_code.specs.Operands.{are_there}
use Rattle.rt_code.specs.Owning.{SectionKind, Marked, Raised, Masked, saved_slot}
use Rattle.rt_code.specs.Processor.{Processor, Traps, Leads}
use Rattle.rt_code.specs.declared.instr.Instr.TheVariants as instr
use Rattle.rt_code.specs.declared.processor.Request.TheVariants as request
use Rattle.rt_code.specs.declared.processor.Trap.TheVariants as trap
use Rattle.rt_code.proofs.Done.{effect_is_done}
use Rattle.rt_core.specs.Masks.{CanPutBack, processor_after_opening, processor_after_closing}

one_there : (slot : ℕ) (slots : List ℕ) → slot < length slots → are_there (slot ∷ []) slots ≡ true
one_there slot slots h = ap (λ b. b && true) (lt-ltb slot (length slots) h)

-- the instruction that opens a section of a kind, whose slot is in the frame
pub opening_leads : (value : ℕ) (kind : SectionKind) (time : ℕ) (p : Processor)
    → AllByRecursion (λ d. d < length p.slots) (saved_slot kind)
    → effect (opening_instr value kind) time p ≡ Leads (processor_after_opening p value kind) request.Nothing
opening_leads value Marked time p there = refl
opening_leads value (Raised slot) time p (there, none) = effect_is_done (instr.Raise slot value) time p refl
    (one_there slot p.slots there)
opening_leads value (Masked slot) time p (there, none) = effect_is_done (instr.Mask slot) time p refl
    (one_there slot p.slots there)

-- and the one that closes it
pub closing_leads : (kind : SectionKind) (time : ℕ) (p : Processor) → CanPutBack kind p.slots
    → effect (closing_instr kind) time p ≡ Leads (processor_after_closing p kind) request.Nothing
closing_leads Marked time p can = refl
closing_leads (Raised slot) time p can = effect_is_done (instr.Restore slot) time p refl (one_there slot p.slots can)
closing_leads (Masked slot) time p (there, two) =
    effect_is_done (instr.Unmask slot) time p refl (one_there slot p.slots there)
    ∙ ap (λ b. if b then Leads (processor_after_closing p (Masked slot)) request.Nothing else Traps trap.Stack)
    (le-leb (slice_index p.slots slot) 1 two)

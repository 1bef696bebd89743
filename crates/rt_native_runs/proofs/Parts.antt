-- Where an image's parts lie well, what runs and what was interrupted are in parts of the code with their frames.
use Rattle.std.proofs.Common.{◌≡◌, ℕ, suc, ◌+◌, ◌%◌, nat_le, Bool, true, false, if◌then◌else◌, List, [], ◌∷◌, length}
use Rattle.std.proofs.Common.{slice_get, slice_index, Option, Some, None, refl, sym, ap, subst, ◌∙◌}
use Rattle.std.proofs.Common.{IfSome, arith, length-set, get_or-set_same}
use Rattle.std.proofs.lemmas.Bool.{false≢true}
use Rattle.std.proofs.lemmas.List.{length-replicate}
use Rattle.rt_code.specs.Effect.{effect}
use Rattle.rt_code.specs.Image.{Image}
use Rattle.rt_code.specs.Processor.{Processor, Effect, Traps, Leads}
use Rattle.rt_code.specs.Stack.{caller_frame, last_slot, return_address, words_of}
use Rattle.rt_code.specs.declared.image.BodyRow.{BodyRow}
use Rattle.rt_code.specs.declared.image.Handler.{Handler}
use Rattle.rt_code.specs.declared.image.IrqRow.{IrqRow}
use Rattle.rt_code.specs.declared.instr.Instr.{Instr}
use Rattle.rt_code.specs.declared.instr.Note.{Note}
use Rattle.rt_code.specs.declared.processor.Request.{Request}
use Rattle.rt_code.specs.declared.processor.Request.TheVariants as request
use Rattle.rt_code.proofs.Asking.{done_leads}
use Rattle.rt_code.proofs.Touching.{slots_after, slots_sized}
use Rattle.rt_core.specs.Core.{Core, Context}
use Rattle.rt_core.specs.Note.{item_of_note}
use Rattle.rt_core.specs.Outcome.{Outcome, Trapped, Done, settle}
use Rattle.rt_core.specs.Priority.{pick}
use Rattle.rt_core.specs.Stepping.{answer, outcome_of_note, with_note, go_on, step}
use Rattle.rt_core.specs.Transfer.{core_after_call, core_after_entry, core_after_pend}
use Rattle.rt_core.proofs.Happening.{steps_by_cause}
use Rattle.rt_core.proofs.Picking.{all_at, picked_row}
use Rattle.rt_trace.specs.declared.item.What.{What}
use Rattle.rt_trace.specs.declared.item.What.TheVariants as what
use Rattle.rt_native.specs.Frames.{handler_words, body_words}
use Rattle.rt_native.specs.Sequences.{RETURN_SLOT}
use Rattle.rt_native_laws.specs.Moments.{with_frame}
use Rattle.rt_points.specs.Leading.{LeadsOn}
use Rattle.rt_native_runs.specs.Lying.{IsSamePart, LiesWell}
use Rattle.rt_native_runs.proofs.Sorts.{IsOther, IsSimple, asks_simply, leads_on}

-- a core as another in its processor and its frames
abbrev KeepsParts : Core → Core → Type 0
KeepsParts c d = (d.processor ≡ c.processor) × (d.caller ≡ c.caller) × (d.below ≡ c.below)

abbrev core_of : Outcome → Core
core_of (Trapped c t) = c
core_of (Done c shown) = c

answer_keeps : (img : Image) (c : Core) (asked : Request) → IsSimple asked
    → KeepsParts c (core_of (answer img c asked))
answer_keeps img c request.Nothing simple = (refl, refl, refl)
answer_keeps img c (request.Emit value) simple = (refl, refl, refl)
answer_keeps img c (request.Post irq) simple = (refl, refl, refl)
answer_keeps img c (request.Clock time) simple = (refl, refl, refl)
answer_keeps img c (request.Alarm instant irq) simple = by (nat_le instant c.time)
  where
    by : (b : Bool) → KeepsParts c (core_of (if b
        then Done (record (core_after_pend c irq) { alarm = None }) (Some what.Alarm)
        else Done (record c { alarm = Some (record { instant = instant; irq = irq }) }) (Some what.AlarmSet)))
    by true = (refl, refl, refl)
    by false = (refl, refl, refl)
answer_keeps img c request.NoAlarm simple = (refl, refl, refl)
answer_keeps img c (request.Call row from) simple = absurd simple
answer_keeps img c request.Back simple = absurd simple
answer_keeps img c request.Return simple = absurd simple

note_keeps : (c d : Core) → KeepsParts c d → (o : Option What) → KeepsParts c (core_of (outcome_of_note d o))
note_keeps c d keeps None = keeps
note_keeps c d keeps (Some w) = keeps

with_note_keeps : (img : Image) (c : Core) (told : Option Note) (o : Outcome) → KeepsParts c (core_of o)
    → KeepsParts c (core_of (with_note img told o))
with_note_keeps img c None (Trapped d t) keeps = keeps
with_note_keeps img c None (Done d shown) keeps = keeps
with_note_keeps img c (Some n) (Trapped d t) keeps = keeps
with_note_keeps img c (Some n) (Done d (Some w)) keeps = keeps
with_note_keeps img c (Some n) (Done d None) keeps = note_keeps c d keeps (item_of_note img d n)

settle_keeps : (c : Core) (o : Outcome) → KeepsParts c (core_of o) → KeepsParts c (settle o).0
settle_keeps c (Trapped d t) keeps = keeps
settle_keeps c (Done d shown) keeps = keeps

-- where an instruction that asks for no frame leads
pub record GoesTo (c d : Core) (i : Instr) : Type 0 where
  pub address : LeadsOn i c.processor.address d.processor.address
  pub long : length d.processor.slots ≡ length c.processor.slots
  pub caller : d.caller ≡ c.caller
  pub below : d.below ≡ c.below

pub goes_to : (img : Image) (c : Core) (i : Instr) (told : Option Note) → c.stopped ≡ false → pick img c ≡ None
    → slice_get img.code c.processor.address ≡ Some (i, told) → IsOther i → (step img c).0.stopped ≡ false
    → GoesTo c (step img c).0 i
goes_to img c i told runs picked at other went = by (effect i c.time c.processor) refl
  where
    stepped : step img c ≡ settle (go_on img c told (effect i c.time c.processor))
    stepped = steps_by_cause.line img c (i, told) runs picked at

    by : (e : Effect) → effect i c.time c.processor ≡ e → GoesTo c (step img c).0 i
    by (Traps t) is =
        absurd (false≢true (sym went ∙ ap (λ (r : Core × Option What). r.0.stopped) stepped
        ∙ ap (λ e. (settle (go_on img c told e)).0.stopped) is))
    by (Leads p asked) is =
        let done = done_leads i c.time c.processor p asked is in
        let now : (step img c).0 ≡ (settle (go_on img c told (Leads p asked))).0 =
        ap (λ (r : Core × Option What). r.0) stepped ∙ ap (λ e. (settle (go_on img c told e)).0) is in
        let keeps : KeepsParts (record c { processor = p }) (settle (go_on img c told (Leads p asked))).0 =
        settle_keeps (record c { processor = p }) (with_note img told (answer img (record c { processor = p }) asked))
        (with_note_keeps img (record c { processor = p }) told (answer img (record c { processor = p }) asked)
        (answer_keeps img (record c { processor = p }) asked
        (asks_simply i other c.time c.processor p asked done))) in
        let processor : (step img c).0.processor ≡ p = ap (λ (d : Core). d.processor) now ∙ keeps.0 in
        let sized : length p.slots ≡ length c.processor.slots =
        subst (λ e. length (slots_after e c.processor.slots) ≡ length c.processor.slots) is
        (slots_sized i c.time c.processor) in
        record {
          address = subst (λ (q : Processor). LeadsOn i c.processor.address q.address) (sym processor)
              (leads_on i other c.time c.processor p asked done);
          long = ap (λ (q : Processor). length q.slots) processor ∙ sized;
          caller = ap (λ (d : Core). d.caller) now ∙ keeps.1;
          below = ap (λ (d : Core). d.below) now ∙ keeps.2;
        }

module _ (img : Image) where
  -- the frame of a handler's own code, or those of a body that it called and its own
  abbrev pub HaveFrames : ℕ → List ℕ → Option (List ℕ) → Type 0
  HaveFrames address slots None = handler_words img.irqs address ≡ length slots
  HaveFrames address slots (Some frame) =
      (body_words img.bodies address ≡ length slots) × (length frame ≡ RETURN_SLOT + 1)
      × (handler_words img.irqs (return_address frame) ≡ length frame)

  -- frames of even numbers of words
  abbrev pub AreEven : List ℕ → Option (List ℕ) → Type 0
  AreEven slots caller = (length slots % 2 ≡ 0) × (length (words_of caller) % 2 ≡ 0)

  -- a handler is in a part with its frame; of the thread, which interrupts nobody, nothing is asked
  abbrev pub IsPlaced : List Context → ℕ → List ℕ → Option (List ℕ) → Type 0
  IsPlaced [] address slots caller = Unit {0}
  IsPlaced (x ∷ below) address slots caller = HaveFrames address slots caller

  abbrev pub IsInPart : List Context → ℕ → List ℕ → Option (List ℕ) → Type 0
  IsInPart below address slots caller = AreEven slots caller × IsPlaced below address slots caller

  abbrev pub AreInParts : List Context → Type 0
  AreInParts [] = Unit {0}
  AreInParts (x ∷ below) = IsInPart below x.address x.slots x.caller × AreInParts below

  pub record LieInParts (c : Core) : Type 0 where
    pub running : IsInPart c.below c.processor.address c.processor.slots c.caller
    pub others : AreInParts c.below

  -- it goes on in its part
  place_goes : (below : List Context) (address to : ℕ) (slots words : List ℕ) (caller : Option (List ℕ))
      → IsSamePart img address to → length words ≡ length slots → IsPlaced below address slots caller
      → IsPlaced below to words caller
  place_goes [] address to slots words caller same long part = tt
  place_goes (x ∷ below) address to slots words None same long part = same.handler ∙ part ∙ sym long
  place_goes (x ∷ below) address to slots words (Some frame) same long part =
      (same.body ∙ part.0 ∙ sym long, part.1, part.2)

  part_goes : (below : List Context) (address to : ℕ) (slots words : List ℕ) (caller : Option (List ℕ))
      → IsSamePart img address to → length words ≡ length slots → IsInPart below address slots caller
      → IsInPart below to words caller
  part_goes below address to slots words caller same long part =
      ((ap (λ n. n % 2) long ∙ part.0.0, part.0.1), place_goes below address to slots words caller same long part.1)

  -- its frame has other words
  pub parts_fill : (c : Core) (words : List ℕ) → length words ≡ length c.processor.slots → LieInParts c
      → LieInParts (with_frame words c)
  parts_fill c words long lie = record {
    running = part_goes c.below c.processor.address c.processor.address c.processor.slots words c.caller
        (record { handler = refl; body = refl }) long lie.running;
    others = lie.others;
  }

  module _ (lies : LiesWell img) where
    -- a handler begins in its part
    pub parts_entry : (c : Core) (row : IrqRow) (h : Handler) → pick img c ≡ Some row → row.handler ≡ Some h
        → LieInParts c → LieInParts (core_after_entry c row.number h)
    parts_entry c row h picked is lie =
        let found = all_at (λ r. IfSome r.handler (λ k. handler_words img.irqs k.entry ≡ k.frame)) img.irqs row
        lies.handlers (picked_row img c row picked).0 in
        let words : handler_words img.irqs h.entry ≡ h.frame =
        subst (λ o. IfSome o (λ k. handler_words img.irqs k.entry ≡ k.frame)) is found in
        let even : h.frame % 2 ≡ 0 =
        subst (λ o. IfSome o (λ k. k.frame % 2 ≡ 0)) is
        (all_at (λ r. IfSome r.handler (λ k. k.frame % 2 ≡ 0)) img.irqs row lies.even.handlers
        (picked_row img c row picked).0) in
        record {
          running = (
            (ap (λ n. n % 2) (length-replicate h.frame 0) ∙ even, refl),
            words ∙ sym (length-replicate h.frame 0),
          );
          others = (lie.running, lie.others);
        }

    -- an instruction that asks for no frame stays in its part
    pub parts_go : (c d : Core) (i : Instr) (told : Option Note)
        → slice_get img.code c.processor.address ≡ Some (i, told) → GoesTo c d i → LieInParts c → LieInParts d
    parts_go c d i told at goes lie = record {
      running = subst (λ bs. IsInPart bs d.processor.address d.processor.slots d.caller) (sym goes.below)
          (subst (λ o. IsInPart c.below d.processor.address d.processor.slots o) (sym goes.caller)
          (part_goes c.below c.processor.address d.processor.address c.processor.slots d.processor.slots c.caller
          (lies.flows c.processor.address d.processor.address i told at goes.address) goes.long lie.running));
      others = subst (λ bs. AreInParts bs) (sym goes.below) lie.others;
    }

    -- a called body begins in its part, and its handler's goes on behind the call
    pub parts_call : (c : Core) (row : ℕ) (called : BodyRow) (from : ℕ) (x : Context) (others : List Context)
        → c.below ≡ x ∷ others → c.caller ≡ None → slice_get img.bodies row ≡ Some called
        → body_words img.bodies called.entry ≡ called.frame → called.frame % 2 ≡ 0
        → length (core_after_call c called from).processor.slots ≡ called.frame
        → IsSamePart img c.processor.address (suc c.processor.address)
        → handler_words img.irqs c.processor.address ≡ RETURN_SLOT + 1
        → LieInParts c → LieInParts (core_after_call c called from)
    parts_call c row called from x others below free there words even long behind frame lie =
        let part : HaveFrames c.processor.address c.processor.slots None =
        subst (λ o. HaveFrames c.processor.address c.processor.slots o) free
        (subst (λ bs. IsPlaced bs c.processor.address c.processor.slots c.caller) below lie.running.1) in
        let slots : List ℕ = c.processor.slots in
        let sized : length slots ≡ RETURN_SLOT + 1 = sym part ∙ frame in
        let as_long : length (caller_frame slots (suc c.processor.address)) ≡ length slots =
        length-set slots (last_slot slots) (suc c.processor.address) in
        let last : last_slot (caller_frame slots (suc c.processor.address)) ≡ last_slot slots =
        omega (arith, as_long) in
        let back : return_address (caller_frame slots (suc c.processor.address)) ≡ suc c.processor.address =
        ap (slice_index (caller_frame slots (suc c.processor.address))) last
        ∙ get_or-set_same slots (last_slot slots) (suc c.processor.address) 0 (omega (arith, sized)) in
        record {
          running = (
            (ap (λ n. n % 2) long ∙ even, ap (λ n. n % 2) as_long ∙ lie.running.0.0),
            subst (λ bs. IsPlaced bs called.entry (core_after_call c called from).processor.slots
                (Some (caller_frame slots (suc c.processor.address)))) (sym below) (
                  words ∙ sym long,
                  as_long ∙ sized,
                  ap (handler_words img.irqs) back ∙ behind.handler ∙ part ∙ sym as_long,
                ),
          );
          others = lie.others;
        }

  -- a handler goes on behind the call of a body that came back
  pub parts_back : (c : Core) (frame : List ℕ) → c.caller ≡ Some frame → LieInParts c
      → LieInParts (record c {
        processor = record c.processor { address = return_address frame; slots = frame };
        caller = None;
      })
  parts_back c frame caller lie = record {
    running = ((ap (λ o. length (words_of o) % 2) (sym caller) ∙ lie.running.0.1, refl), by c.below lie.running.1);
    others = lie.others;
  }
    where
      by : (below : List Context) → IsPlaced below c.processor.address c.processor.slots c.caller
          → IsPlaced below (return_address frame) frame None
      by [] part = tt
      by (x ∷ below) part =
          (subst (λ o. HaveFrames c.processor.address c.processor.slots o) caller part).2

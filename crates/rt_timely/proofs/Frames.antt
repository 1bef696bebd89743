-- What the line of the job that runs does to the frames on the core: it writes its own slots, and those who were
-- interrupted keep theirs.
use Rattle.std.proofs.Common.{◌≡◌, ℕ, suc, ◌<◌, ◌==◌, nat_le, Bool, true, false, if◌then◌else◌, List, ◌∷◌, length, map}
use Rattle.std.proofs.Common.{slice_index, slice_set, Option, Some, None, refl, sym, ap, subst, ◌∙◌}
use Rattle.std.specs.List.{AllByRecursion}
use Rattle.std.proofs.lemmas.Bool.{false≢true}
use Rattle.std.proofs.lemmas.Option.{same_Some}
use Rattle.rt_ids.specs.Operation.{operate, number_of}
use Rattle.rt_code.specs.Effect.{slot, next, next_with_slot, next_with_cell, unchecked_effect}
use Rattle.rt_code.specs.Image.{Image}
use Rattle.rt_code.specs.Operands.{slots_of}
use Rattle.rt_code.specs.Processor.{Processor, Effect, Traps, Leads as LeadsTo}
use Rattle.rt_code.specs.declared.instr.Instr.{Instr}
use Rattle.rt_code.specs.declared.instr.Instr.TheVariants as instr
use Rattle.rt_code.specs.declared.instr.Note.{Note}
use Rattle.rt_code.specs.declared.processor.Request.{Request}
use Rattle.rt_code.specs.declared.processor.Request.TheVariants as request
use Rattle.rt_code.specs.declared.processor.Trap.TheVariants as trap
use Rattle.rt_trace.specs.declared.item.What.{What}
use Rattle.rt_core.specs.Core.{Context, Core}
use Rattle.rt_core.specs.Note.{item_of_note}
use Rattle.rt_core.specs.Outcome.{Outcome, Trapped, Done, settle}
use Rattle.rt_core.specs.Priority.{pick}
use Rattle.rt_core.specs.Stepping.{answer, outcome_of_note, with_note, go_on, step}
use Rattle.rt_points.specs.Checked.{IsChecked}
use Rattle.rt_points.specs.Leading.{LeadsOn, LeadsTo as LeadsToPoint}
use Rattle.rt_points.specs.Point.{Point}
use Rattle.rt_points.specs.Rules.{is_supported, written_slot}
use Rattle.rt_safe.specs.Inside.RunsAtPoints.{RunsAtPoints}
use Rattle.rt_safe.proofs.Advancing.{line_steps}
use Rattle.rt_safe.proofs.Lines.{HasLine, line_at}
use Rattle.rt_timely.proofs.Acting.{Acts, Keeps, keeps_all, keeps_others}
use Rattle.rt_timely.proofs.Pending.{left_by}

-- the words of the frames, those of who runs first
abbrev pub frames_below : List Context → List (List ℕ)
frames_below below = map (λ x. x.slots) below

abbrev pub frames_of : Core → List (List ℕ)
frames_of c = c.processor.slots ∷ frames_below c.below

-- requests that leave the processor and the frames as the instruction left them
abbrev IsPlain : Request → Type 0
IsPlain request.Nothing = Unit {0}
IsPlain (request.Emit value) = Unit {0}
IsPlain (request.Post irq) = Unit {0}
IsPlain (request.Clock time) = Unit {0}
IsPlain asked = ⊥

-- the processor is this one, and those who were interrupted are as they were
abbrev IsLeft : Core → Processor → Core → Type 0
IsLeft c after d = (d.processor ≡ after) × (d.below ≡ c.below)

settled : (c : Core) (after : Processor) (o : Outcome) → IsLeft c after (left_by o) → IsLeft c after (settle o).0
settled c after (Trapped d t) is = is
settled c after (Done d shown) is = is

noted : (img : Image) (c : Core) (after : Processor) (told : Option Note) (o : Outcome) → IsLeft c after (left_by o)
    → IsLeft c after (left_by (with_note img told o))
noted img c after None o is = is
noted img c after (Some n) (Trapped d t) is = is
noted img c after (Some n) (Done d (Some w)) is = is
noted img c after (Some n) (Done d None) is = by (item_of_note img d n)
  where
    by : (o : Option What) → IsLeft c after (left_by (outcome_of_note d o))
    by None = is
    by (Some w) = is

answered : (img : Image) (c : Core) (after : Processor) (asked : Request) → IsPlain asked
    → IsLeft c after (left_by (answer img (record c { processor = after }) asked))
answered img c after request.Nothing plain = (refl, refl)
answered img c after (request.Emit value) plain = (refl, refl)
answered img c after (request.Post irq) plain = (refl, refl)
answered img c after (request.Clock time) plain = (refl, refl)
answered img c after asked plain = absurd plain

module _ (img : Image) (c : Core) (told : Option Note) where
  -- the core behind an effect
  abbrev Ran : Processor → Request → Core
  Ran after asked = (settle (go_on img c told (LeadsTo after asked))).0

  left : (after : Processor) (asked : Request) → IsPlain asked → IsLeft c after (Ran after asked)
  left after asked plain =
      settled c after (with_note img told (answer img (record c { processor = after }) asked))
      (noted img c after told (answer img (record c { processor = after }) asked) (answered img c after asked plain))

  -- the core behind an instruction
  abbrev Behind : Instr → Core
  Behind i = (settle (go_on img c told (unchecked_effect i c.time c.processor))).0

  -- it acts on the slots alone, and leads to an address
  abbrev HasActed : Instr → ℕ → Core → Type 0
  HasActed i to d = Acts i c.processor.address to c.processor.slots d.processor.slots × (d.below ≡ c.below)

  slots_left : (after : Processor) (d : Core) → IsLeft c after d → d.processor.slots ≡ after.slots
  slots_left after d is = ap (λ (r : Processor). r.slots) is.0

  -- one that writes no slot
  writes_none : (i : Instr) (after : Processor) (asked : Request) → IsPlain asked → after.slots ≡ c.processor.slots
      → Keeps i c.processor.slots (Ran after asked).processor.slots × ((Ran after asked).below ≡ c.below)
  writes_none i after asked plain same =
      let is = left after asked plain in (
        keeps_all i c.processor.slots (Ran after asked).processor.slots
            (slots_left after (Ran after asked) is ∙ same),
        is.1,
      )

  -- one that writes one
  writes_one : (i : Instr) (s v : ℕ) (after : Processor) (asked : Request) → IsPlain asked
      → after.slots ≡ slice_set c.processor.slots s v → written_slot i ≡ Some s
      → Keeps i c.processor.slots (Ran after asked).processor.slots × ((Ran after asked).below ≡ c.below)
  writes_one i s v after asked plain same writes =
      let is = left after asked plain in (
        keeps_others i s v c.processor.slots (Ran after asked).processor.slots writes
            (slots_left after (Ran after asked) is ∙ same),
        is.1,
      )

  -- where a jump leads by what its slot holds
  abbrev jump_by : Bool → ℕ → Processor
  jump_by b l = if b then record c.processor { address = l } else next c.processor

  jumped : (s l to : ℕ) (b : Bool) → slice_index c.processor.slots s == 0 ≡ b
      → (Ran (jump_by b l) request.Nothing).processor.address ≡ to
      → HasActed (instr.JumpZ s l) to (Ran (jump_by b l) request.Nothing)
  jumped s l to true zero there =
      let after : Processor = record c.processor { address = l } in
      let is = left after request.Nothing tt in (
        (
          slots_left after (Ran after request.Nothing) is,
          sym there ∙ ap (λ (r : Processor). r.address) is.0
              ∙ ap (λ b. if b then l else suc c.processor.address) (sym zero),
        ),
        is.1,
      )
  jumped s l to false zero there =
      let is = left (next c.processor) request.Nothing tt in (
        (
          slots_left (next c.processor) (Ran (next c.processor) request.Nothing) is,
          sym there ∙ ap (λ (r : Processor). r.address) is.0
              ∙ ap (λ b. if b then l else suc c.processor.address) (sym zero),
        ),
        is.1,
      )

  -- what `unmask` leaves, by whether the slot holds 0 or 1
  abbrev unmask_effect : ℕ → Bool → Effect
  unmask_effect s b =
      if b then LeadsTo (record (next c.processor) { primask = slot c.processor s == 1 }) request.Nothing
      else Traps trap.Stack

  abbrev unmask_by : ℕ → Bool → Core
  unmask_by s b = (settle (go_on img c told (unmask_effect s b))).0

  unmasked : (s : ℕ) (b : Bool)
      → Keeps (instr.Unmask s) c.processor.slots (unmask_by s b).processor.slots × ((unmask_by s b).below ≡ c.below)
  unmasked s true =
      writes_none (instr.Unmask s) (record (next c.processor) { primask = slot c.processor s == 1 }) request.Nothing tt
      refl
  unmasked s false = (keeps_all (instr.Unmask s) c.processor.slots c.processor.slots refl, refl)

  -- an instruction that leads to an address acts on the slots alone
  acted : (i : Instr) (to : ℕ) → is_supported i ≡ true → LeadsOn i c.processor.address to
      → AllByRecursion (λ s. s < length c.processor.slots) (slots_of i) → (Behind i).processor.address ≡ to
      → HasActed i to (Behind i)
  acted (instr.Set d v) to supported leads there at =
      let after : Processor = next_with_slot c.processor d v in
      let is = left after request.Nothing tt in
      ((slots_left after (Ran after request.Nothing) is, there.0), is.1)
  acted (instr.Calc op d a b) to supported leads there at =
      let after : Processor = next_with_slot c.processor d (operate op (slot c.processor a) (slot c.processor b)) in
      let is = left after request.Nothing tt in
      ((slots_left after (Ran after request.Nothing) is, there.0), is.1)
  acted (instr.JumpZ s l) to supported leads there at = jumped s l to (slot c.processor s == 0) refl at
  acted (instr.Copy d s) to supported leads there at =
      writes_one (instr.Copy d s) d (slot c.processor s) (next_with_slot c.processor d (slot c.processor s))
      request.Nothing tt refl refl
  acted (instr.Load d n) to supported leads there at =
      writes_one (instr.Load d n) d (slice_index c.processor.cells n)
      (next_with_slot c.processor d (slice_index c.processor.cells n)) request.Nothing tt refl refl
  acted (instr.Store n s) to supported leads there at =
      writes_none (instr.Store n s) (next_with_cell c.processor n (slot c.processor s)) request.Nothing tt refl
  acted (instr.LoadAt d n s) to supported leads there at = absurd (false≢true supported)
  acted (instr.StoreAt n s a) to supported leads there at = absurd (false≢true supported)
  acted (instr.Jump l) to supported leads there at =
      writes_none (instr.Jump l) (record c.processor { address = l }) request.Nothing tt refl
  acted (instr.Emit s) to supported leads there at =
      writes_none (instr.Emit s) (next c.processor) (request.Emit (slot c.processor s)) tt refl
  acted (instr.Post irq) to supported leads there at =
      writes_none (instr.Post irq) (next c.processor) (request.Post irq) tt refl
  acted (instr.Clock d) to supported leads there at =
      writes_one (instr.Clock d) d c.time (next_with_slot c.processor d c.time) (request.Clock c.time) tt refl refl
  acted (instr.Alarm s irq) to supported leads there at = absurd (false≢true supported)
  acted instr.NoAlarm to supported leads there at = absurd (false≢true supported)
  acted (instr.Raise d v) to supported leads there at =
      writes_one (instr.Raise d v) d c.processor.basepri
      (record (next_with_slot c.processor d c.processor.basepri) { basepri = v }) request.Nothing tt refl refl
  acted (instr.Restore s) to supported leads there at =
      writes_none (instr.Restore s) (record (next c.processor) { basepri = slot c.processor s }) request.Nothing tt
      refl
  acted (instr.Mask d) to supported leads there at =
      writes_one (instr.Mask d) d (number_of c.processor.primask)
      (record (next_with_slot c.processor d (number_of c.processor.primask)) { primask = true }) request.Nothing tt
      refl refl
  acted (instr.Unmask s) to supported leads there at = unmasked s (nat_le (slot c.processor s) 1)
  acted instr.Mark to supported leads there at = writes_none instr.Mark (next c.processor) request.Nothing tt refl
  acted instr.Serve to supported leads there at =
      writes_none instr.Serve (record (next c.processor) { primask = false }) request.Nothing tt refl
  acted instr.Wait to supported leads there at = writes_none instr.Wait c.processor request.Nothing tt refl
  acted (instr.Call row s) to supported leads there at = absurd leads
  acted instr.Back to supported leads there at = absurd leads
  acted instr.Ret to supported leads there at = absurd leads

module _ (img : Image) (checked : IsChecked img) (c : Core) (p : Point) (qs : List Point)
    (fits : RunsAtPoints img c p qs) (picked : pick img c ≡ None) (d : Core) (shown : Option What)
    (is : step img c ≡ (d, shown)) (q : Point) (rest : List Point) (after : RunsAtPoints img d q rest)
    (leads : LeadsToPoint img p q) where
  line : HasLine img p
  line = line_at img checked p fits.running.point

  same_line : leads.line ≡ (line.instr, line.told)
  same_line = same_Some leads.line (line.instr, line.told) (sym leads.stands ∙ line.stands.1)

  same_instr : leads.line.0 ≡ line.instr
  same_instr = ap (λ (l : Instr × Option Note). l.0) same_line

  core_is : Behind img c line.told line.instr ≡ d
  core_is = ap (λ (r : Core × Option What). r.0) (sym (line_steps img checked c p qs fits line picked) ∙ is)

  -- the line of a step acts on the slots of its job alone
  pub line_acts : Acts leads.line.0 p.address q.address c.processor.slots d.processor.slots × (d.below ≡ c.below)
  line_acts =
      let to : LeadsOn line.instr c.processor.address q.address =
      subst (λ i. LeadsOn i c.processor.address q.address) same_instr
      (subst (λ a. LeadsOn leads.line.0 a q.address) (sym fits.address) leads.address) in
      let there : AllByRecursion (λ s. s < length c.processor.slots) (slots_of line.instr) =
      subst (λ n. AllByRecursion (λ s. s < n) (slots_of line.instr)) (sym fits.running.frame) line.operable.slots in
      let acts : HasActed img c line.told line.instr q.address d =
      subst (HasActed img c line.told line.instr q.address) core_is
      (acted img c line.told line.instr q.address line.operable.supported to there
      (ap (λ (r : Core). r.processor.address) core_is ∙ after.address)) in (
        subst (λ i. Acts i p.address q.address c.processor.slots d.processor.slots) (sym same_instr)
            (subst (λ a. Acts line.instr a q.address c.processor.slots d.processor.slots) fits.address acts.0),
        acts.1,
      )

-- What code that stands says of the line where a job is, by its instruction.
use Rattle.std.proofs.Common.{◌≡◌, ℕ, suc, true, false, List}
use Rattle.std.proofs.Common.{slice_index, Option, Some, None, refl, sym, ap, subst, ◌∙◌, arith}
use Rattle.rt_actions.specs.Action.{Returns}
use Rattle.rt_actions.specs.Storage.{Storage, Runner}
use Rattle.rt_ids.specs.declared.ids.BodyId.TheVariants as body
use Rattle.rt_ids.specs.declared.ids.Section.{Section}
use Rattle.rt_ids.specs.declared.ids.Section.TheVariants as section
use Rattle.rt_code.specs.Effect.{effect}
use Rattle.rt_code.specs.Ending.{Finishes, Calls, ComesBack}
use Rattle.rt_code.specs.Masking.{EntersSection, opening_instr, closing_instr}
use Rattle.rt_code.specs.Owning.{SectionKind, Marked, Raised, Masked, Configuration, is_open}
use Rattle.rt_code.specs.Processor.{Effect, Traps, Leads}
use Rattle.rt_code.specs.Standing.{Fits, Goes, Asks, configuration_after, processor_of}
use Rattle.rt_code.specs.declared.image.BodyRow.{BodyRow}
use Rattle.rt_code.specs.declared.instr.Instr.{Instr}
use Rattle.rt_code.specs.declared.instr.Instr.TheVariants as instr
use Rattle.rt_code.specs.declared.instr.Note.{Note}
use Rattle.rt_code.specs.declared.instr.Note.TheVariants as note
use Rattle.rt_code.specs.declared.processor.Request.{Request}
use Rattle.rt_code.specs.declared.processor.Request.TheVariants as request
use Rattle.rt_code.proofs.Asking.{done_leads}

-- neither opens nor closes a section
no_opening : (v : ℕ) (kind : SectionKind) (i : Instr) → ((slot w : ℕ) → i ≡ instr.Raise slot w → ⊥)
    → ((slot : ℕ) → i ≡ instr.Mask slot → ⊥) → (i ≡ instr.Mark → ⊥) → i ≡ opening_instr v kind → ⊥
no_opening v Marked i raise mask mark is = mark is
no_opening v (Raised slot) i raise mask mark is = raise slot v is
no_opening v (Masked slot) i raise mask mark is = mask slot is

no_closing : (kind : SectionKind) (i : Instr) → ((slot : ℕ) → i ≡ instr.Restore slot → ⊥)
    → ((slot : ℕ) → i ≡ instr.Unmask slot → ⊥) → (i ≡ instr.Mark → ⊥) → i ≡ closing_instr kind → ⊥
no_closing Marked i restore unmask mark is = mark is
no_closing (Raised slot) i restore unmask mark is = restore slot is
no_closing (Masked slot) i restore unmask mark is = unmask slot is

-- BASEPRI where an effect leads
abbrev base_of : Effect → ℕ
base_of (Traps t) = 0
base_of (Leads q asked) = q.basepri

module _ (st : Storage) (code : List (Instr × Option Note)) (bodies : List BodyRow) (thread : ℕ) (who : Runner)
    (s : Configuration) (later : Configuration → Type 0) where
  abbrev FitsHere : Instr → Option Note → Type 0
  FitsHere i told = Fits st code bodies thread who i told s later

  -- a call
  pub calls_here : (row from : ℕ) (told : Option Note) → FitsHere (instr.Call row from) told
      → (told ≡ None) × Calls st code bodies thread who row from s later
  calls_here row from None fits = (refl, (fits.goes 0 0 false (omega arith)).3)
  calls_here row from (Some (note.Enter x)) fits =
      absurd (no_opening (st.value (st.ceiling x)) fits.kind (instr.Call row from) (λ a b e. cc (e)) (λ a e. cc (e))
      (λ e. cc (e)) fits.opens)
  calls_here row from (Some (note.Leave x)) fits =
      absurd (no_closing fits.kind (instr.Call row from) (λ a e. cc (e)) (λ a e. cc (e)) (λ e. cc (e)) fits.closes)
  calls_here row from (Some (note.End body.Init)) fits = absurd (let e = fits.0 in cc (e))
  calls_here row from (Some (note.End body.Idle)) fits = absurd (let e = fits.0 in cc (e))
  calls_here row from (Some (note.End (body.Task t))) fits = absurd (let e = fits.0 in cc (e))
  calls_here row from (Some told) fits = absurd ((fits.goes 0 0 false (omega arith)).3)

  -- the way back
  pub back_here : (told : Option Note) → FitsHere instr.Back told
      → (t : ℕ) × (told ≡ Some (note.End (body.Task t))) × ComesBack st code bodies thread who t s later
  back_here None fits = absurd ((fits.goes 0 0 false (omega arith)).3)
  back_here (Some (note.Enter x)) fits =
      absurd (no_opening (st.value (st.ceiling x)) fits.kind instr.Back (λ a b e. cc (e)) (λ a e. cc (e))
      (λ e. cc (e)) fits.opens)
  back_here (Some (note.Leave x)) fits =
      absurd (no_closing fits.kind instr.Back (λ a e. cc (e)) (λ a e. cc (e)) (λ e. cc (e)) fits.closes)
  back_here (Some (note.End body.Init)) fits = absurd (let e = fits.0 in cc (e))
  back_here (Some (note.End body.Idle)) fits = absurd (let e = fits.0 in cc (e))
  back_here (Some (note.End (body.Task t))) fits = (t, refl, fits.1)
  back_here (Some told) fits = absurd ((fits.goes 0 0 false (omega arith)).3)

  -- a return
  pub return_here : (told : Option Note) → FitsHere instr.Ret told
      → (told ≡ None) × Finishes st code bodies thread who Returns s
  return_here None fits = (refl, (fits.goes 0 0 false (omega arith)).3)
  return_here (Some (note.Enter x)) fits =
      absurd (no_opening (st.value (st.ceiling x)) fits.kind instr.Ret (λ a b e. cc (e)) (λ a e. cc (e))
      (λ e. cc (e)) fits.opens)
  return_here (Some (note.Leave x)) fits =
      absurd (no_closing fits.kind instr.Ret (λ a e. cc (e)) (λ a e. cc (e)) (λ e. cc (e)) fits.closes)
  return_here (Some (note.End body.Init)) fits = absurd (let e = fits.0 in cc (e))
  return_here (Some (note.End body.Idle)) fits = absurd (let e = fits.0 in cc (e))
  return_here (Some (note.End (body.Task t))) fits = absurd (let e = fits.0 in cc (e))
  return_here (Some told) fits = absurd ((fits.goes 0 0 false (omega arith)).3)

  -- an instruction that raises BASEPRI without a section would leave it
  raises_not : (d v : ℕ) (told : Option Note) (e : Effect)
      → effect (instr.Raise d v) 0 (processor_of s (suc v) false) ≡ e
      → Goes st code bodies thread who told (suc v) false s later e → ⊥
  raises_not d v told (Traps t) is goes = goes
  raises_not d v told (Leads p asked) is goes =
      let done = done_leads (instr.Raise d v) 0 (processor_of s (suc v) false) p asked is in
      let set : v ≡ p.basepri = ap base_of done in
      omega (arith, set, goes.0)

  -- it opens a section
  pub raises_here : (d v : ℕ) (told : Option Note) → FitsHere (instr.Raise d v) told
      → (x : Section) × (goes : EntersSection st who x (instr.Raise d v) s later)
      × (goes.kind ≡ Raised d) × (st.value (st.ceiling x) ≡ v)
  raises_here d v None fits =
      absurd (raises_not d v None _ refl (fits.goes 0 (suc v) false (omega arith)))
  raises_here d v (Some (note.Enter x)) fits = let is = by fits.kind refl fits.opens in (x, fits, is.0, is.1)
    where
      by : (kind : SectionKind) → fits.kind ≡ kind
          → instr.Raise d v ≡ opening_instr (st.value (st.ceiling x)) kind
          → (fits.kind ≡ Raised d) × (st.value (st.ceiling x) ≡ v)
      by Marked of_kind is = absurd (cc (is))
      by (Raised slot) of_kind is =
          let same : slot ≡ d = cc (is) in
          let value : st.value (st.ceiling x) ≡ v = cc (is) in
          (of_kind ∙ ap Raised same, value)
      by (Masked slot) of_kind is = absurd (cc (is))
  raises_here d v (Some (note.Leave x)) fits =
      absurd (no_closing fits.kind (instr.Raise d v) (λ a e. cc (e)) (λ a e. cc (e)) (λ e. cc (e)) fits.closes)
  raises_here d v (Some (note.End body.Init)) fits = absurd (let e = fits.0 in cc (e))
  raises_here d v (Some (note.End body.Idle)) fits = absurd (let e = fits.0 in cc (e))
  raises_here d v (Some (note.End (body.Task t))) fits = absurd (let e = fits.0 in cc (e))
  raises_here d v (Some told) fits =
      absurd (raises_not d v (Some told) _ refl (fits.goes 0 (suc v) false (omega arith)))

  -- what it asks of the core
  abbrev asked_of : Effect → Request
  asked_of (Traps t) = request.Nothing
  asked_of (Leads p asked) = asked

  inside_asked : (v irq : ℕ) (told : Option Note) (t : Configuration)
      → Asks st code bodies thread who (request.Alarm v irq) told t later
      → (st.timer ≡ Some irq) × (is_open t.held section.Timer ≡ true)
  inside_asked v irq None t asks = (asks.0, asks.1.inside)
  inside_asked v irq (Some told) t asks = absurd asks

  alarm_asks : (d irq : ℕ) (told : Option Note) (e : Effect)
      → effect (instr.Alarm d irq) 0 (processor_of s 0 false) ≡ e
      → Goes st code bodies thread who told 0 false s later e
      → (st.timer ≡ Some irq) × (is_open s.held section.Timer ≡ true)
  alarm_asks d irq told (Traps t) is goes = absurd goes
  alarm_asks d irq told (Leads p asked) is goes =
      let done = done_leads (instr.Alarm d irq) 0 (processor_of s 0 false) p asked is in
      inside_asked (slice_index s.slots d) irq told (configuration_after s p)
      (subst (λ k. Asks st code bodies thread who k told (configuration_after s p) later) (sym (ap asked_of done))
      goes.3)

  -- an alarm is set inside the section of the timer queue
  pub alarm_here : (d irq : ℕ) (told : Option Note) → FitsHere (instr.Alarm d irq) told
      → (st.timer ≡ Some irq) × (is_open s.held section.Timer ≡ true)
  alarm_here d irq None fits = alarm_asks d irq None _ refl (fits.goes 0 0 false (omega arith))
  alarm_here d irq (Some (note.Enter x)) fits =
      absurd (no_opening (st.value (st.ceiling x)) fits.kind (instr.Alarm d irq) (λ a b e. cc (e)) (λ a e. cc (e))
      (λ e. cc (e)) fits.opens)
  alarm_here d irq (Some (note.Leave x)) fits =
      absurd (no_closing fits.kind (instr.Alarm d irq) (λ a e. cc (e)) (λ a e. cc (e)) (λ e. cc (e)) fits.closes)
  alarm_here d irq (Some (note.End body.Init)) fits = absurd (let e = fits.0 in cc (e))
  alarm_here d irq (Some (note.End body.Idle)) fits = absurd (let e = fits.0 in cc (e))
  alarm_here d irq (Some (note.End (body.Task t))) fits = absurd (let e = fits.0 in cc (e))
  alarm_here d irq (Some told) fits = alarm_asks d irq (Some told) _ refl (fits.goes 0 0 false (omega arith))

  inside_none : (told : Option Note) (t : Configuration)
      → Asks st code bodies thread who request.NoAlarm told t later → is_open t.held section.Timer ≡ true
  inside_none None t asks = asks.inside
  inside_none (Some told) t asks = absurd asks

  -- and taken back there
  pub no_alarm_here : (told : Option Note) → FitsHere instr.NoAlarm told → is_open s.held section.Timer ≡ true
  no_alarm_here None fits = inside_none None _ (fits.goes 0 0 false (omega arith)).3
  no_alarm_here (Some (note.Enter x)) fits =
      absurd (no_opening (st.value (st.ceiling x)) fits.kind instr.NoAlarm (λ a b e. cc (e)) (λ a e. cc (e))
      (λ e. cc (e)) fits.opens)
  no_alarm_here (Some (note.Leave x)) fits =
      absurd (no_closing fits.kind instr.NoAlarm (λ a e. cc (e)) (λ a e. cc (e)) (λ e. cc (e)) fits.closes)
  no_alarm_here (Some (note.End body.Init)) fits = absurd (let e = fits.0 in cc (e))
  no_alarm_here (Some (note.End body.Idle)) fits = absurd (let e = fits.0 in cc (e))
  no_alarm_here (Some (note.End (body.Task t))) fits = absurd (let e = fits.0 in cc (e))
  no_alarm_here (Some told) fits = absurd ((fits.goes 0 0 false (omega arith)).3)

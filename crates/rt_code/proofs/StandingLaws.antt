-- The laws of code that stands, together.
use Rattle.std.proofs.Common.{◌≡◌, ℕ, suc, ◌^◌, ◌<◌, ◌⊎◌, inl, inr, Bool, true, false, List, [], ◌∷◌, length, slice_get}
use Rattle.std.proofs.Common.{slice_index, Option, Some, None, refl, sym, ap, subst, ◌∙◌}
use Rattle.std.specs.List.{AllByRecursion}
use Rattle.rt_actions.specs.Action.{Returns}
use Rattle.rt_actions.specs.Storage.{Storage, Runner}
use Rattle.rt_ids.specs.declared.ids.BodyId.TheVariants as body
use Rattle.rt_code.specs.Access.{access_of}
use Rattle.rt_code.specs.Effect.{effect}
use Rattle.rt_code.specs.Owning.{Configuration, MayAccess, saved_slots}
use Rattle.rt_code.specs.Processor.{Processor}
use Rattle.rt_code.specs.Standing.{Stands, Asks, Goes, Fits, LineFits, Calls, Finishes, KeepsSaved, configuration_after}
use Rattle.rt_code.specs.Standing.{spend_step, processor_of}
use Rattle.rt_code.specs.StandingLaws.{RepresentsByItsOwn, StandingLaws}
use Rattle.rt_code.specs.Leading.{LeadsTo, is_plain, is_of_section}
use Rattle.rt_code.specs.StandingSteps.{StepLaw, MaskLaw, FrameLaw, EndLaw}
use Rattle.rt_code.specs.declared.image.BodyRow.{BodyRow}
use Rattle.rt_code.specs.declared.instr.Instr.{Instr}
use Rattle.rt_code.specs.declared.instr.Note.{Note}
use Rattle.rt_code.specs.declared.instr.Note.TheVariants as note
use Rattle.rt_code.specs.declared.processor.Request.{Request}
use Rattle.rt_code.specs.declared.processor.Request.TheVariants as request
use Rattle.rt_code.proofs.Asking.{call_stays, return_stays, opening_asks, closing_asks, opening_touches}
use Rattle.rt_code.proofs.Asking.{closing_touches}
use Rattle.rt_code.proofs.Others.{stands_others}
use Rattle.rt_code.proofs.Standing.{stands_left, stands_fits, stands_before_more, stands_with_more}
use Rattle.rt_code.proofs.Touching.{slots_after, slots_sized}

kept_alike : (slots ds : List ℕ) → AllByRecursion (λ d. slice_index slots d ≡ slice_index slots d) ds
kept_alike slots [] = tt
kept_alike slots (d ∷ ds) = (refl, kept_alike slots ds)

module _ (st : Storage) (code : List (Instr × Option Note)) (bodies : List BodyRow) (thread : ℕ) (who : Runner) (n : ℕ)
    (s : Configuration) (stands : Stands st code bodies thread who (suc n) s) where
  -- the line at the configuration fits
  fits_at : (i : Instr) (told : Option Note) → slice_get code s.address ≡ Some (i, told)
      → Fits st code bodies thread who i told (spend_step s) (Stands st code bodies thread who n)
  fits_at i told is = subst (λ o. LineFits st code bodies thread who o (spend_step s)
      (Stands st code bodies thread who n)) is (stands_fits st code bodies thread who n s stands)

  some_line : (o : Option (Instr × Option Note)) → slice_get code s.address ≡ o
      → LineFits st code bodies thread who o (spend_step s) (Stands st code bodies thread who n)
      → StepLaw st code bodies thread who n s
  some_line None is f = absurd f
  some_line (Some line) is f = record {
    left = stands_left st code bodies thread who n s stands;
    line = line;
    there = is;
    touches = touches line.0 line.1 f;
    goes = goes line.0 line.1 f;
  }
    where
      none : (i : Instr) → access_of i (processor_of s 0 false) ≡ None
          → MayAccess st who s (access_of i (processor_of s 0 false))
      none i is = subst (λ a. MayAccess st who s a) (sym is) tt

      touches : (i : Instr) (told : Option Note) → Fits st code bodies thread who i told (spend_step s)
          (Stands st code bodies thread who n) → MayAccess st who s (access_of i (processor_of s 0 false))
      touches i (Some (note.Enter x)) f = none i (ap (λ j. access_of j (processor_of s 0 false)) f.opens
          ∙ opening_touches (st.value (st.ceiling x)) f.kind (processor_of s 0 false))
      touches i (Some (note.Leave x)) f = none i (ap (λ j. access_of j (processor_of s 0 false)) f.closes
          ∙ closing_touches f.kind (processor_of s 0 false))
      touches i (Some (note.End body.Init)) f = none i (ap (λ j. access_of j (processor_of s 0 false)) f.0)
      touches i (Some (note.End body.Idle)) f = none i (ap (λ j. access_of j (processor_of s 0 false)) f.0)
      touches i (Some (note.End (body.Task t))) f = none i (ap (λ j. access_of j (processor_of s 0 false)) f.0)
      touches i told f = f.touches

      goes : (i : Instr) (told : Option Note) → Fits st code bodies thread who i told (spend_step s)
          (Stands st code bodies thread who n) → is_plain told ≡ true → (time basepri : ℕ) (primask : Bool)
          → time < 2 ^ 31
          → Goes st code bodies thread who told basepri primask (spend_step s) (Stands st code bodies thread who n)
          (effect i time (processor_of s basepri primask))
      goes i (Some (note.Enter x)) f plain time basepri primask early = absurd (cc)
      goes i (Some (note.Leave x)) f plain time basepri primask early = absurd (cc)
      goes i (Some (note.End b)) f plain time basepri primask early = absurd (cc)
      goes i told f plain time basepri primask early = f.goes time basepri primask early

  step_law : StepLaw st code bodies thread who n s
  step_law = some_line (slice_get code s.address) refl (stands_fits st code bodies thread who n s stands)

  -- a line that asks for more than nothing and is no body's end is a plain one
  asks_plainly : (i : Instr) (told : Option Note) (time basepri : ℕ) (primask : Bool) (p : Processor) (asked : Request)
      → LeadsTo s i time basepri primask p asked
      → (asked ≡ request.Nothing → ⊥) → (asked ≡ request.Back → ⊥) → Fits st code bodies thread who i told
      (spend_step s) (Stands st code bodies thread who n)
      → Asks st code bodies thread who asked told (configuration_after (spend_step s) p)
      (Stands st code bodies thread who n)
  asks_plainly i (Some (note.Enter x)) time basepri primask p asked (early, leads) some other f =
      absurd (some (opening_asks (st.value (st.ceiling x)) f.kind time (processor_of s basepri primask) p asked
      (ap (λ j. effect j time (processor_of s basepri primask)) (sym f.opens) ∙ leads)))
  asks_plainly i (Some (note.Leave x)) time basepri primask p asked (early, leads) some other f =
      absurd (some (closing_asks f.kind time (processor_of s basepri primask) p asked
      (ap (λ j. effect j time (processor_of s basepri primask)) (sym f.closes) ∙ leads)))
  asks_plainly i (Some (note.End body.Init)) time basepri primask p asked (early, leads) some other f =
      absurd (some (let e = ap (λ j. effect j time (processor_of s basepri primask)) (sym f.0) ∙ leads in cc))
  asks_plainly i (Some (note.End body.Idle)) time basepri primask p asked (early, leads) some other f =
      absurd (some (let e = ap (λ j. effect j time (processor_of s basepri primask)) (sym f.0) ∙ leads in cc))
  asks_plainly i (Some (note.End (body.Task t))) time basepri primask p asked (early, leads) some other f =
      absurd (other (let e = ap (λ j. effect j time (processor_of s basepri primask)) (sym f.0) ∙ leads in cc))
  asks_plainly i told time basepri primask p asked (early, leads) some other f =
      (subst (λ e. Goes st code bodies thread who told basepri primask (spend_step s)
      (Stands st code bodies thread who n) e) leads (f.goes time basepri primask early)).3

  calls_told : (told : Option Note) (row from : ℕ) (t : Configuration)
      → Asks st code bodies thread who (request.Call row from)
      told t (Stands st code bodies thread who n)
      → Calls st code bodies thread who row from t (Stands st code bodies thread who n)
  calls_told None row from t a = a
  calls_told (Some told) row from t a = absurd a

  ends_told : (told : Option Note) (t : Configuration) → Asks st code bodies thread who request.Return told t
      (Stands st code bodies thread who n) → Finishes st code bodies thread who Returns t
  ends_told None t a = a
  ends_told (Some told) t a = absurd a

  -- a return, and a call, at the configuration where it stands
  returns_at : (i : Instr) (told : Option Note) → slice_get code s.address ≡ Some (i, told)
      → (time basepri : ℕ) (primask : Bool) (p : Processor)
      → LeadsTo s i time basepri primask p request.Return → Finishes st code bodies thread who Returns
      (spend_step s)
  returns_at i told is time basepri primask p (early, leads) =
      subst (λ q. Finishes st code bodies thread who Returns (configuration_after (spend_step s) q))
      (return_stays i time (processor_of s basepri primask) p leads)
      (ends_told told (configuration_after (spend_step s) p)
      (asks_plainly i told time basepri primask p request.Return (early, leads) (λ e. cc) (λ e. cc)
      (fits_at i told is)))

  calls_at : (i : Instr) (told : Option Note) → slice_get code s.address ≡ Some (i, told)
      → (time basepri row from : ℕ) (primask : Bool) (p : Processor)
      → LeadsTo s i time basepri primask p (request.Call row from) → Calls st code bodies thread who row from
      (spend_step s) (Stands st code bodies thread who n)
  calls_at i told is time basepri row from primask p (early, leads) =
      subst (λ q. Calls st code bodies thread who row from (configuration_after (spend_step s) q)
      (Stands st code bodies thread who n)) (call_stays i time row from (processor_of s basepri primask) p leads)
      (calls_told told row from (configuration_after (spend_step s) p)
      (asks_plainly i told time basepri primask p (request.Call row from) (early, leads) (λ e. cc) (λ e. cc)
      (fits_at i told is)))

  -- a line that asks for the way back is a body's end
  backs_at : (i : Instr) (told : Option Note) (time basepri : ℕ) (primask : Bool) (p : Processor)
      → LeadsTo s i time basepri primask p request.Back
      → Fits st code bodies thread who i told (spend_step s) (Stands st code bodies thread who n) → (t : ℕ)
      × (told ≡ Some (note.End (body.Task t)))
  backs_at i (Some (note.Enter x)) time basepri primask p (early, leads) f =
      absurd (let e = opening_asks (st.value (st.ceiling x)) f.kind time (processor_of s basepri primask) p request.Back
      (ap (λ j. effect j time (processor_of s basepri primask)) (sym f.opens) ∙ leads) in cc)
  backs_at i (Some (note.Leave x)) time basepri primask p (early, leads) f =
      absurd (let e = closing_asks f.kind time (processor_of s basepri primask) p request.Back
      (ap (λ j. effect j time (processor_of s basepri primask)) (sym f.closes) ∙ leads) in cc)
  backs_at i (Some (note.End body.Init)) time basepri primask p (early, leads) f =
      absurd (let e = ap (λ j. effect j time (processor_of s basepri primask)) (sym f.0) ∙ leads in cc)
  backs_at i (Some (note.End body.Idle)) time basepri primask p (early, leads) f =
      absurd (let e = ap (λ j. effect j time (processor_of s basepri primask)) (sym f.0) ∙ leads in cc)
  backs_at i (Some (note.End (body.Task t))) time basepri primask p leads f = (t, refl)
  backs_at i told time basepri primask p (early, leads) f =
      absurd (none told (subst (λ e. Goes st code bodies thread who told basepri primask (spend_step s)
      (Stands st code bodies thread who n) e) leads (f.goes time basepri primask early)).3)
    where
      none : (told : Option Note)
          → Asks st code bodies thread who request.Back told (configuration_after (spend_step s) p)
          (Stands st code bodies thread who n) → ⊥
      none None a = a
      none (Some told) a = a

  abbrev Keeps : Option Note → ℕ → Bool → Processor → Type 0
  Keeps told basepri primask p =
      KeepsSaved s.held s.slots p.slots × (p.basepri ≡ basepri)
      × ((p.primask ≡ primask) ⊎ ((told ≡ Some (note.End body.Init)) × (p.primask ≡ false)))

  mask_kept : (i : Instr) (told : Option Note) → is_of_section told ≡ false
      → (time basepri : ℕ) (primask : Bool) (p : Processor) (asked : Request)
      → LeadsTo s i time basepri primask p asked → Fits st code bodies thread who i told (spend_step s)
      (Stands st code bodies thread who n) → Keeps told basepri primask p
  mask_kept i (Some (note.Enter x)) plain time basepri primask p asked leads f = absurd (cc)
  mask_kept i (Some (note.Leave x)) plain time basepri primask p asked leads f = absurd (cc)
  mask_kept i (Some (note.End body.Init)) plain time basepri primask p asked (early, leads) f =
      let e = ap (λ j. effect j time (processor_of s basepri primask)) (sym f.0) ∙ leads in
      let same : record (processor_of s basepri primask) { address = suc s.address; primask = false } ≡ p = cc in
      subst (λ q. Keeps (Some (note.End body.Init)) basepri primask q) same
      (kept_alike s.slots (saved_slots s.held), refl, inr (refl, refl))
  mask_kept i (Some (note.End body.Idle)) plain time basepri primask p asked (early, leads) f =
      let e = ap (λ j. effect j time (processor_of s basepri primask)) (sym f.0) ∙ leads in
      let same : record (processor_of s basepri primask) { address = thread } ≡ p = cc in
      subst (λ q. Keeps (Some (note.End body.Idle)) basepri primask q) same
      (kept_alike s.slots (saved_slots s.held), refl, inl refl)
  mask_kept i (Some (note.End (body.Task t))) plain time basepri primask p asked (early, leads) f =
      let e = ap (λ j. effect j time (processor_of s basepri primask)) (sym f.0) ∙ leads in
      let same : processor_of s basepri primask ≡ p = cc in
      subst (λ q. Keeps (Some (note.End (body.Task t))) basepri primask q) same
      (kept_alike s.slots (saved_slots s.held), refl, inl refl)
  mask_kept i told plain time basepri primask p asked (early, leads) f =
      let g = subst (λ e. Goes st code bodies thread who told basepri primask (spend_step s)
      (Stands st code bodies thread who n) e) leads (f.goes time basepri primask early) in
      (g.2, g.0, inl g.1)

  mask_law : MaskLaw st code bodies thread who n s
  mask_law = record {
    opens = λ x i is. let f = fits_at i (Some (note.Enter x)) is in
        record { kind = f.kind; mask = f.mask; opens = f.opens; slot = f.slot };
    closes = λ x i is. let f = fits_at i (Some (note.Leave x)) is in
        record { kind = f.kind; outer = f.outer; innermost = f.innermost; closes = f.closes };
    kept = λ i told is plain time basepri primask p asked leads. mask_kept i told plain time basepri primask p asked
        leads (fits_at i told is);
  }

  frame_law : FrameLaw st code bodies thread who n s
  frame_law = record {
    long = λ i time basepri primask p asked leads. subst (λ e. length (slots_after e s.slots) ≡ length s.slots) leads.1
        (slots_sized i time (processor_of s basepri primask));
    call = λ i told is time basepri row from primask p leads. calls_at i told is time basepri row from primask p leads;
    back = λ t i is. fits_at i (Some (note.End (body.Task t))) is;
    off = λ i told is time basepri primask p leads. backs_at i told time basepri primask p leads (fits_at i told is);
    own = λ i told is time basepri primask p leads. (returns_at i told is time basepri primask p leads).own_frame;
  }

  end_law : EndLaw st code bodies thread who n s
  end_law = record {
    init = λ i is. fits_at i (Some (note.End body.Init)) is;
    idle = λ i is. fits_at i (Some (note.End body.Idle)) is;
    job = λ i told is time basepri primask p leads. returns_at i told is time basepri primask p leads;
  }

-- The laws: of all code that stands with a storage whose contents go by their own cells.
pub standing_laws : (st : Storage) → RepresentsByItsOwn st → StandingLaws st
standing_laws st by_own = record {
  appending = λ bodies thread who. stands_before_more st bodies thread who;
  more_steps = λ bodies thread who. stands_with_more st bodies thread who;
  others = λ bodies thread who. stands_others st bodies thread who by_own;
  step = λ code bodies thread who n s stands. step_law st code bodies thread who n s stands;
  masks = λ code bodies thread who n s stands. mask_law st code bodies thread who n s stands;
  frames = λ code bodies thread who n s stands. frame_law st code bodies thread who n s stands;
  taking_over = λ code bodies thread who n s stands x i is. fits_at st code bodies thread who n s stands i
      (Some (note.Enter x)) is;
  giving_back = λ code bodies thread who n s stands x i is. fits_at st code bodies thread who n s stands i
      (Some (note.Leave x)) is;
  ends = λ code bodies thread who n s stands. end_law st code bodies thread who n s stands;
}

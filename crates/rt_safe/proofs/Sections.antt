-- Where a section opens or closes the core fits again: its mask is set, and what it was is saved; or it is put back.
use Rattle.std.proofs.Common.{◌≡◌, ℕ, suc, ◌<◌, ◌≤◌, ◌==◌, Bool, true, false, if◌then◌else◌, List, ◌∷◌, drop, length}
use Rattle.std.proofs.Common.{Option, Some, None, refl, sym, ap, subst, ◌∙◌, arith, length-set, get_or-set_same}
use Rattle.std.proofs.Common.{slice_get}
use Rattle.std.specs.List.{AllByRecursion}
use Rattle.std.proofs.lemmas.Bool.{le-leb}
use Rattle.rt_ids.specs.Operation.{number_of}
use Rattle.rt_ids.specs.declared.ids.BodyId.TheVariants as body
use Rattle.rt_ids.specs.declared.ids.Section.{Section}
use Rattle.rt_ids.proofs.Numbers.{read_back}
use Rattle.rt_code.specs.Effect.{slot, next, next_with_slot, unchecked_effect}
use Rattle.rt_code.specs.Image.{Image}
use Rattle.rt_code.specs.Operands.{slots_of}
use Rattle.rt_code.specs.Processor.{Processor, Traps, Leads as LeadsTo}
use Rattle.rt_code.specs.declared.instr.Instr.{Instr}
use Rattle.rt_code.specs.declared.instr.Note.{Note}
use Rattle.rt_code.specs.declared.instr.Note.TheVariants as note
use Rattle.rt_code.specs.declared.processor.Request.TheVariants as request
use Rattle.rt_code.specs.declared.processor.Trap.TheVariants as trap
use Rattle.rt_trace.specs.declared.item.What.TheVariants as what
use Rattle.rt_core.specs.Core.{Core}
use Rattle.rt_core.specs.Leading.{with_processor}
use Rattle.rt_core.specs.Note.{left_value}
use Rattle.rt_core.specs.Outcome.{settle}
use Rattle.rt_core.specs.Priority.{pick}
use Rattle.rt_core.specs.Stepping.{go_on}
use Rattle.rt_points.specs.declared.point.SectionKind.{SectionKind}
use Rattle.rt_points.specs.declared.point.SectionKind.TheVariants.{Mark, Raise, Mask}
use Rattle.rt_points.specs.declared.point.Opened.{Opened}
use Rattle.rt_points.specs.Checked.{IsChecked}
use Rattle.rt_points.specs.Leading.{Leads, LeadsOn, LeadsTo as LeadsToPoint, kind_of}
use Rattle.rt_points.specs.ExecutionPriority.{frame_of}
use Rattle.rt_points.specs.Point.{Point, sections}
use Rattle.rt_points.specs.Rules as rules
use Rattle.rt_safe.specs.Inside.RunsAtPoints.{is_starting, base_by, mask_by, base_inside, mask_inside, base_under}
use Rattle.rt_safe.specs.Inside.RunsAtPoints.{KeepsMask, KeepMasks, RunsAtPoints}
use Rattle.rt_safe.specs.Inside.Lines.{opening_instr}
use Rattle.rt_safe.specs.Inside.Moved.{Opened_one, Closed_one}
use Rattle.rt_safe.specs.Inside.Steps.{insides_of, FindsNone, Steps}
use Rattle.rt_safe.proofs.Advancing.{line_steps}
use Rattle.rt_safe.proofs.Keeping.{owner_of_opening, owner_of_closing, kind_of_opening}
use Rattle.rt_safe.proofs.Lines.{HasLine}
use Rattle.rt_safe.proofs.Saving.{saves_kept, stacked_alike}

-- the processor behind the instruction that opens a section of a kind
opened : Processor → SectionKind → Processor
opened p Mark = next p
opened p (Raise d v) = record (next_with_slot p d p.basepri) { basepri = v }
opened p (Mask d) = record (next_with_slot p d (number_of p.primask)) { primask = true }

-- and behind the one that closes it
closed : Processor → SectionKind → Processor
closed p Mark = next p
closed p (Raise d v) = record (next p) { basepri = slot p d }
closed p (Mask d) = record (next p) { primask = slot p d == 1 }

opening_leads : (kind : SectionKind) (time : ℕ) (p : Processor)
    → unchecked_effect (opening_instr kind) time p ≡ LeadsTo (opened p kind) request.Nothing
unfolding opened
opening_leads Mark time p = refl
opening_leads (Raise d v) time p = refl
opening_leads (Mask d) time p = refl

number_small : (b : Bool) → number_of b ≤ 1
number_small true = omega arith
number_small false = omega arith

closing_leads : (kind : SectionKind) (time : ℕ) (p : Processor) (base : ℕ) (mask : Bool)
    → KeepsMask p.slots kind base mask
    → unchecked_effect (rules.closing_instr kind) time p ≡ LeadsTo (closed p kind) request.Nothing
unfolding closed
closing_leads Mark time p base mask saves = refl
closing_leads (Raise d v) time p base mask saves = refl
closing_leads (Mask d) time p base mask saves =
    let small = number_small mask in
    ap (λ b. if b then LeadsTo (record (next p) { primask = slot p d == 1 }) request.Nothing else Traps trap.Stack)
    (le-leb (slot p d) 1 (omega (arith, small, saves.1)))

opening_on : (kind : SectionKind) (at : ℕ) → LeadsOn (opening_instr kind) at (suc at)
opening_on Mark at = refl
opening_on (Raise d v) at = refl
opening_on (Mask d) at = refl

closing_on : (kind : SectionKind) (at : ℕ) → LeadsOn (rules.closing_instr kind) at (suc at)
closing_on Mark at = refl
closing_on (Raise d v) at = refl
closing_on (Mask d) at = refl

-- What an opening leaves: the masks of its kind, its slot, and memory and the frame as long.
record IsOpened (p : Processor) (kind : SectionKind) (inside : List Opened) (base : ℕ) (mask : Bool) : Type 0 where
  address : (opened p kind).address ≡ suc p.address
  basepri : (opened p kind).basepri ≡ base_by kind p.basepri
  primask : (opened p kind).primask ≡ mask_by kind p.primask
  frame : length (opened p kind).slots ≡ length p.slots
  memory : length (opened p kind).cells ≡ length p.cells
  saves : KeepsMask (opened p kind).slots kind (base_inside inside base) (mask_inside inside mask)
  kept : KeepMasks (opened p kind).slots inside base mask

is_opened : (p : Processor) (kind : SectionKind) (inside : List Opened) (base : ℕ) (mask : Bool) (n : ℕ)
    → p.basepri ≡ base_inside inside base → p.primask ≡ mask_inside inside mask → length p.slots ≡ n
    → AllByRecursion (λ d. d < n) (slots_of (opening_instr kind)) → rules.IsUnsaved inside
    (rules.written_slot (opening_instr kind))
    → KeepMasks p.slots inside base mask → IsOpened p kind inside base mask
unfolding opened
is_opened p Mark inside base mask n basepri primask long there free saves = record {
  address = refl;
  basepri = refl;
  primask = refl;
  frame = refl;
  memory = refl;
  saves = tt;
  kept = saves;
}
is_opened p (Raise d v) inside base mask n basepri primask long there free saves = record {
  address = refl;
  basepri = refl;
  primask = refl;
  frame = length-set p.slots d p.basepri;
  memory = refl;
  saves = (
    let same = length-set p.slots d p.basepri in omega (arith, same, long, there.0),
    get_or-set_same p.slots d p.basepri 0 (omega (arith, long, there.0)) ∙ basepri,
  );
  kept = saves_kept p.slots d p.basepri inside base mask free saves;
}
is_opened p (Mask d) inside base mask n basepri primask long there free saves = record {
  address = refl;
  basepri = refl;
  primask = refl;
  frame = length-set p.slots d (number_of p.primask);
  memory = refl;
  saves = (
    let same = length-set p.slots d (number_of p.primask) in omega (arith, same, long, there.0),
    get_or-set_same p.slots d (number_of p.primask) 0 (omega (arith, long, there.0)) ∙ ap number_of primask,
  );
  kept = saves_kept p.slots d (number_of p.primask) inside base mask free saves;
}

-- What a closing leaves: the masks as they were before the opening.
record IsClosed (p : Processor) (kind : SectionKind) (base : ℕ) (mask : Bool) : Type 0 where
  address : (closed p kind).address ≡ suc p.address
  basepri : (closed p kind).basepri ≡ base
  primask : (closed p kind).primask ≡ mask
  slots : (closed p kind).slots ≡ p.slots
  cells : (closed p kind).cells ≡ p.cells

is_closed : (p : Processor) (kind : SectionKind) (base : ℕ) (mask : Bool) → p.basepri ≡ base_by kind base
    → p.primask ≡ mask_by kind mask → KeepsMask p.slots kind base mask → IsClosed p kind base mask
unfolding closed
is_closed p Mark base mask basepri primask saves =
    record { address = refl; basepri = basepri; primask = primask; slots = refl; cells = refl }
is_closed p (Raise d v) base mask basepri primask saves =
    record { address = refl; basepri = saves.1; primask = primask; slots = refl; cells = refl }
is_closed p (Mask d) base mask basepri primask saves = record {
  address = refl;
  basepri = basepri;
  primask = ap (λ n. n == 1) saves.1 ∙ read_back mask;
  slots = refl;
  cells = refl;
}

no_init_end : (x : Section) → Some (what.Enter x) ≡ Some (what.End body.Init) → ⊥
no_init_end x same = cc (same)

no_init_end_left : (x : Section) (value : Option ℕ) → Some (what.Leave x value) ≡ Some (what.End body.Init) → ⊥
no_init_end_left x value same = cc (same)

module _ (img : Image) (checked : IsChecked img) (c : Core) (p : Point) (qs : List Point)
    (fits : RunsAtPoints img c p qs)
    (line : HasLine img p) (picked : pick img c ≡ None) where
  module _ (x : Section) (kind : SectionKind) (is : line.instr ≡ opening_instr kind)
      (tells : line.told ≡ Some (note.Enter x))
      (free : FindsNone (Some (what.Enter x)) (insides_of (p ∷ qs))) where
    abbrev inner : Point
    inner = record { address = suc p.address; owner = p.owner; inside = record { section = x; kind = kind } ∷ p.inside }

    same_line : ◌≡◌ {A = Instr × Option Note} (line.instr, line.told) (opening_instr kind, Some (note.Enter x))
    same_line k = (is k, tells k)

    stands_inside : slice_get img.code p.address ≡ Some (opening_instr kind, Some (note.Enter x))
    stands_inside = line.stands.1 ∙ ap (λ (l : Instr × Option Note). Some l) same_line

    opened_inside : inner.inside ≡ record { section = x; kind = kind_of (opening_instr kind) } ∷ p.inside
    opened_inside = ap (λ k. record { section = x; kind = k } ∷ p.inside) (sym (kind_of_opening kind))

    leads_inside : LeadsToPoint img p inner
    leads_inside = record {
      line = (opening_instr kind, Some (note.Enter x));
      stands = stands_inside;
      address = opening_on kind p.address;
      owner = sym (owner_of_opening kind p.owner);
      inside = opened_inside;
    }

    after_opening : IsOpened c.processor kind p.inside (base_under qs) (is_starting p.owner)
    after_opening = is_opened c.processor kind p.inside (base_under qs) (is_starting p.owner) (frame_of img p.owner)
        fits.basepri fits.primask fits.running.frame
        (subst (λ i. AllByRecursion (λ d. d < frame_of img p.owner) (slots_of i)) is line.operable.slots)
        (subst (λ i. rules.IsUnsaved p.inside (rules.written_slot i)) is line.noted.unsaved) fits.running.saves

    fits_inside : RunsAtPoints img (with_processor c (opened c.processor kind)) inner qs
    fits_inside = record {
      running = record {
        point = Leads p inner fits.running.point leads_inside;
        frame = after_opening.frame ∙ fits.running.frame;
        saves = (after_opening.saves, after_opening.kept);
      };
      stack = stacked_alike img p inner refl qs c.below fits.stack;
      address = after_opening.address ∙ ap suc fits.address;
      basepri = after_opening.basepri ∙ ap (base_by kind) fits.basepri;
      primask = after_opening.primask ∙ ap (mask_by kind) fits.primask;
      memory = after_opening.memory ∙ fits.memory;
      caller = fits.caller;
      alarm = fits.alarm;
      stopped = fits.stopped;
    }

    pub opens_section : Steps img c p qs
    opens_section = record {
      core = with_processor c (opened c.processor kind);
      shown = Some (what.Enter x);
      is = line_steps img checked c p qs fits line picked
          ∙ ap (λ (l : Instr × Option Note). settle (go_on img c l.1 (unchecked_effect l.0 c.time c.processor)))
          same_line
          ∙ ap (λ e. settle (go_on img c (Some (note.Enter x)) e)) (opening_leads kind c.time c.processor);
      point = inner;
      below = qs;
      fits = fits_inside;
      insides = refl;
      free = free;
      nested = tt;
      returns = tt;
      no_trap = tt;
      started = λ before. before;
      ended = λ end. absurd (no_init_end x end);
      how = Opened_one (record {
        goes = record { none = picked; leads = leads_inside; owner = refl; below = refl };
        section = x;
        instr = opening_instr kind;
        enters = (fits.running.point, stands_inside);
        inside = opened_inside;
        shows = refl;
      });
    }

  module _ (x : Section) (kind : SectionKind) (outer : List Opened)
      (inside : p.inside ≡ record { section = x; kind = kind } ∷ outer)
      (is : line.instr ≡ rules.closing_instr kind) (tells : line.told ≡ Some (note.Leave x)) where
    abbrev outside : Point
    outside = record { address = suc p.address; owner = p.owner; inside = outer }

    same_closing : ◌≡◌ {A = Instr × Option Note} (line.instr, line.told) (rules.closing_instr kind, Some (note.Leave x))
    same_closing k = (is k, tells k)

    leads_outside : LeadsToPoint img p outside
    leads_outside = record {
      line = (rules.closing_instr kind, Some (note.Leave x));
      stands = line.stands.1 ∙ ap (λ (l : Instr × Option Note). Some l) same_closing;
      address = closing_on kind p.address;
      owner = sym (owner_of_closing kind p.owner);
      inside = ap (drop 1) (sym inside);
    }

    saved : KeepsMask c.processor.slots kind (base_inside outer (base_under qs))
        (mask_inside outer (is_starting p.owner))
        × KeepMasks c.processor.slots outer (base_under qs) (is_starting p.owner)
    saved = subst (λ s. KeepMasks c.processor.slots s (base_under qs) (is_starting p.owner)) inside fits.running.saves

    after_closing : IsClosed c.processor kind (base_inside outer (base_under qs))
        (mask_inside outer (is_starting p.owner))
    after_closing = is_closed c.processor kind (base_inside outer (base_under qs))
        (mask_inside outer (is_starting p.owner))
        (fits.basepri ∙ ap (λ s. base_inside s (base_under qs)) inside)
        (fits.primask ∙ ap (λ s. mask_inside s (is_starting p.owner)) inside) saved.0

    fits_outside : RunsAtPoints img (with_processor c (closed c.processor kind)) outside qs
    fits_outside = record {
      running = record {
        point = Leads p outside fits.running.point leads_outside;
        frame = ap length after_closing.slots ∙ fits.running.frame;
        saves = subst (λ slots. KeepMasks slots outer (base_under qs) (is_starting p.owner))
            (sym after_closing.slots) saved.1;
      };
      stack = stacked_alike img p outside refl qs c.below fits.stack;
      address = after_closing.address ∙ ap suc fits.address;
      basepri = after_closing.basepri;
      primask = after_closing.primask;
      memory = ap length after_closing.cells ∙ fits.memory;
      caller = fits.caller;
      alarm = fits.alarm;
      stopped = fits.stopped;
    }

    pub closes_section : Steps img c p qs
    closes_section = record {
      core = with_processor c (closed c.processor kind);
      shown = Some (what.Leave x (left_value img (with_processor c (closed c.processor kind)) x));
      is = line_steps img checked c p qs fits line picked
          ∙ ap (λ (l : Instr × Option Note). settle (go_on img c l.1 (unchecked_effect l.0 c.time c.processor)))
          same_closing
          ∙ ap (λ e. settle (go_on img c (Some (note.Leave x)) e))
          (closing_leads kind c.time c.processor _ _ saved.0);
      point = outside;
      below = qs;
      fits = fits_outside;
      insides = ap (λ s. drop 1 (sections s) ∷ insides_of qs) inside;
      free = tt;
      nested = (ap (λ s. slice_get (sections s) 0) inside, tt);
      returns = tt;
      no_trap = tt;
      started = λ before. before;
      ended = λ end. absurd (no_init_end_left x _ end);
      how = Closed_one (record {
        goes = record { none = picked; leads = leads_outside; owner = refl; below = refl };
        opened = record { section = x; kind = kind };
        value = left_value img (with_processor c (closed c.processor kind)) x;
        inside = inside;
        shows = refl;
      });
    }

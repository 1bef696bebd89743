-- Behind an instruction that opens and closes no section the core fits again, at the address that it leads to.
use Rattle.std.proofs.Common.{◌≡◌, inl, inr, ℕ, suc, ◌==◌, Bool, true, false, if◌then◌else◌, List, ◌∷◌, length}
use Rattle.std.proofs.Common.{slice_index, slice_set, slice_get, Option, Some, None, refl, sym, ap, subst, ◌∙◌}
use Rattle.std.proofs.Common.{length-set}
use Rattle.std.specs.List.{AllByRecursion}
use Rattle.rt_ids.specs.Operation.{operate}
use Rattle.rt_ids.specs.declared.ids.BodyId.TheVariants as body
use Rattle.rt_code.specs.Effect.{slot, next, next_with_slot, next_with_cell, unchecked_effect}
use Rattle.rt_code.specs.Image.{Image}
use Rattle.rt_code.specs.Processor.{Processor, Effect, Leads as LeadsTo}
use Rattle.rt_code.specs.declared.instr.Instr.{Instr}
use Rattle.rt_code.specs.declared.instr.Instr.TheVariants as instr
use Rattle.rt_code.specs.declared.instr.Note.{Note}
use Rattle.rt_code.specs.declared.instr.Note.TheVariants as note
use Rattle.rt_code.specs.declared.processor.Request.TheVariants as request
use Rattle.rt_code.proofs.Done.{effect_is_done}
use Rattle.rt_trace.specs.declared.item.What.{What}
use Rattle.rt_trace.specs.declared.item.What.TheVariants as what
use Rattle.rt_core.specs.Core.{Core}
use Rattle.rt_core.specs.Outcome.{settle}
use Rattle.rt_core.specs.Priority.{pick}
use Rattle.rt_core.specs.Stepping.{step, go_on}
use Rattle.rt_core.proofs.Happening.{steps_by_cause}
use Rattle.rt_points.specs.declared.point.Opened.{Opened}
use Rattle.rt_points.specs.Checked.{IsChecked}
use Rattle.rt_points.specs.Leading.{Leads, LeadsOn, LeadsTo as LeadsToPoint, owner_after, inside_after}
use Rattle.rt_points.specs.Point.{Point}
use Rattle.rt_points.specs.Rules as rules
use Rattle.rt_safe.specs.Inside.RunsAtPoints.{is_starting, base_under, KeepMasks, RunsAtPoints}
use Rattle.rt_safe.specs.Inside.Lines.{is_simple}
use Rattle.rt_safe.specs.Inside.Moved.{IsSilent, Gone}
use Rattle.rt_safe.specs.Inside.Steps.{insides_of, insides_after, FindsNone, LeavesLastEntered, ReturnsInNone}
use Rattle.rt_safe.specs.Inside.Steps.{IsNoTrapShown, Steps}
use Rattle.rt_safe.proofs.Lines.{HasLine, slots_there, cells_there}
use Rattle.rt_safe.proofs.Saving.{saves_kept, stacked_alike}

-- what an effect leads to on a core, where these sections are open
pub record Advances (img : Image) (c : Core) (inside : List Opened) (i : Instr) (told : Option Note) (e : Effect)
    : Type 0 where
  pub after : Processor
  pub pending : List Bool
  pub shown : Option What
  pub is : settle (go_on img c told e) ≡ (record c { processor = after; pending = pending }, shown)
  pub address : LeadsOn i c.processor.address after.address
  pub basepri : after.basepri ≡ c.processor.basepri
  pub primask : after.primask ≡ c.processor.primask
  pub frame : length after.slots ≡ length c.processor.slots
  pub memory : length after.cells ≡ length c.processor.cells
  pub saves : (base : ℕ) (mask : Bool) → KeepMasks c.processor.slots inside base mask
      → KeepMasks after.slots inside base mask
  pub silent : IsSilent shown

module _ (img : Image) (c : Core) (inside : List Opened) where
  -- a slot is written that saves nothing
  writes : (i : Instr) (d v : ℕ) (e : Effect) (shown : Option What)
      → settle (go_on img c None e) ≡ (record c { processor = next_with_slot c.processor d v }, shown)
      → LeadsOn i c.processor.address (suc c.processor.address) → IsSilent shown
      → AllByRecursion (λ o. ¬ rules.Saves o.kind d) inside → Advances img c inside i None e
  writes i d v e shown is to silent free = record {
    after = next_with_slot c.processor d v;
    pending = c.pending;
    shown = shown;
    is = is;
    address = to;
    basepri = refl;
    primask = refl;
    frame = length-set c.processor.slots d v;
    memory = refl;
    saves = λ base mask. saves_kept c.processor.slots d v inside base mask free;
    silent = silent;
  }

  -- a cell is written
  stores : (i : Instr) (n v : ℕ) (e : Effect)
      → settle (go_on img c None e) ≡ (record c { processor = next_with_cell c.processor n v }, None)
      → LeadsOn i c.processor.address (suc c.processor.address) → Advances img c inside i None e
  stores i n v e is to = record {
    after = next_with_cell c.processor n v;
    pending = c.pending;
    shown = None;
    is = is;
    address = to;
    basepri = refl;
    primask = refl;
    frame = refl;
    memory = length-set c.processor.cells n v;
    saves = λ base mask saves. saves;
    silent = tt;
  }

  -- neither is, and the code goes on at an address
  goes : (i : Instr) (told : Option Note) (to : ℕ) (pending : List Bool) (e : Effect) (shown : Option What)
      → settle (go_on img c told e)
      ≡ (record c { processor = record c.processor { address = to }; pending = pending }, shown)
      → LeadsOn i c.processor.address to → IsSilent shown → Advances img c inside i told e
  goes i told to pending e shown is leads silent = record {
    after = record c.processor { address = to };
    pending = pending;
    shown = shown;
    is = is;
    address = leads;
    basepri = refl;
    primask = refl;
    frame = refl;
    memory = refl;
    saves = λ base mask saves. saves;
    silent = silent;
  }

  jumps : (s l : ℕ) (b : Bool)
      → Advances img c inside (instr.JumpZ s l) None
      (LeadsTo (if b then record c.processor { address = l } else next c.processor) request.Nothing)
  jumps s l true = goes (instr.JumpZ s l) None l c.pending _ None refl (inr refl) tt
  jumps s l false = goes (instr.JumpZ s l) None (suc c.processor.address) c.pending _ None refl (inl refl) tt

  pub simply : (i : Instr) → is_simple i ≡ true → rules.IsUnsaved inside (rules.written_slot i)
      → Advances img c inside i None (unchecked_effect i c.time c.processor)
  simply (instr.Set d v) simple free = writes (instr.Set d v) d v _ None refl refl tt free
  simply (instr.Copy d s) simple free = writes (instr.Copy d s) d (slot c.processor s) _ None refl refl tt free
  simply (instr.Calc op d a b) simple free =
      writes (instr.Calc op d a b) d (operate op (slot c.processor a) (slot c.processor b)) _ None refl refl tt free
  simply (instr.Load d n) simple free =
      writes (instr.Load d n) d (slice_index c.processor.cells n) _ None refl refl tt free
  simply (instr.Store n s) simple free = stores (instr.Store n s) n (slot c.processor s) _ refl refl
  simply (instr.Jump l) simple free = goes (instr.Jump l) None l c.pending _ None refl refl tt
  simply (instr.JumpZ s l) simple free = jumps s l (slot c.processor s == 0)
  simply (instr.Emit s) simple free =
      goes (instr.Emit s) None (suc c.processor.address) c.pending _
      (Some (what.Emit (slot c.processor s))) refl refl tt
  simply (instr.Post irq) simple free =
      goes (instr.Post irq) None (suc c.processor.address) (slice_set c.pending irq true) _
      (Some (what.Post irq)) refl refl tt
  simply (instr.Clock d) simple free = writes (instr.Clock d) d c.time _ (Some (what.Clock c.time)) refl refl tt free
  simply instr.Mark simple free = goes instr.Mark None (suc c.processor.address) c.pending _ None refl refl tt
  simply instr.Wait simple free = goes instr.Wait None c.processor.address c.pending _ None refl refl tt
  simply i simple free = absurd (cc)

  pub anew : (to : ℕ) → Advances img c inside (instr.Jump to) (Some (note.End body.Idle))
      (unchecked_effect (instr.Jump to) c.time c.processor)
  anew to =
      goes (instr.Jump to) (Some (note.End body.Idle)) to c.pending _ (Some (what.End body.Idle)) refl refl tt

-- what a silent item tells
silent_insides : (shown : Option What) → IsSilent shown → (ps : List Point)
    → insides_after shown (insides_of ps) ≡ insides_of ps
silent_insides None is ps = refl
silent_insides (Some (what.Emit value)) is ps = refl
silent_insides (Some (what.Post irq)) is ps = refl
silent_insides (Some (what.Clock time)) is ps = refl
silent_insides (Some (what.End body.Idle)) is ps = refl
silent_insides shown is ps = absurd is

silent_free : (shown : Option What) → IsSilent shown → (ps : List Point) → FindsNone shown (insides_of ps)
silent_free None is ps = tt
silent_free (Some (what.Emit value)) is ps = tt
silent_free (Some (what.Post irq)) is ps = tt
silent_free (Some (what.Clock time)) is ps = tt
silent_free (Some (what.End body.Idle)) is ps = tt
silent_free shown is ps = absurd is

silent_nested : (shown : Option What) → IsSilent shown → (ps : List Point) → LeavesLastEntered shown (insides_of ps)
silent_nested None is ps = tt
silent_nested (Some (what.Emit value)) is ps = tt
silent_nested (Some (what.Post irq)) is ps = tt
silent_nested (Some (what.Clock time)) is ps = tt
silent_nested (Some (what.End body.Idle)) is ps = tt
silent_nested shown is ps = absurd is

silent_returns : (shown : Option What) → IsSilent shown → (ps : List Point) → ReturnsInNone shown (insides_of ps)
silent_returns None is ps = tt
silent_returns (Some (what.Emit value)) is ps = tt
silent_returns (Some (what.Post irq)) is ps = tt
silent_returns (Some (what.Clock time)) is ps = tt
silent_returns (Some (what.End body.Idle)) is ps = tt
silent_returns shown is ps = absurd is

silent_untrapped : (shown : Option What) → IsSilent shown → IsNoTrapShown shown
silent_untrapped None is = tt
silent_untrapped (Some (what.Emit value)) is = tt
silent_untrapped (Some (what.Post irq)) is = tt
silent_untrapped (Some (what.Clock time)) is = tt
silent_untrapped (Some (what.End body.Idle)) is = tt
silent_untrapped shown is = absurd is

no_end : (shown : Option What) → IsSilent shown → shown ≡ Some (what.End body.Init) → ⊥
no_end shown is end = subst IsSilent end is

module _ (img : Image) (checked : IsChecked img) (c : Core) (p : Point) (qs : List Point)
    (fits : RunsAtPoints img c p qs) where
  -- the step of a line that stands at the point, where no interrupt is taken
  pub line_steps : (line : HasLine img p) → pick img c ≡ None
      → step img c ≡ settle (go_on img c line.told (unchecked_effect line.instr c.time c.processor))
  line_steps line picked =
      let i : Instr = line.instr in
      let long : rules.HasItsCell (length img.cells) (rules.touched_cell i) = line.operable.cell in
      let slots = slots_there _ c.processor.slots _ (sym fits.running.frame) line.operable.slots in
      let cells = cells_there i c.processor (length img.cells) line.operable.supported (sym fits.memory) long in
      steps_by_cause.line img c (i, line.told) fits.stopped picked
      (ap (slice_get img.code) fits.address ∙ line.stands.1)
      ∙ ap (λ e. settle (go_on img c line.told e)) (effect_is_done i c.time c.processor cells slots)

  module _ (line : HasLine img p) (picked : pick img c ≡ None)
      (one : Advances img c p.inside line.instr line.told (unchecked_effect line.instr c.time c.processor))
      (owner : owner_after line.instr p.owner ≡ p.owner)
      (inside : inside_after line.instr line.told p.inside ≡ p.inside) where
    abbrev behind : Point
    behind = record p { address = one.after.address }

    leads_behind : LeadsToPoint img p behind
    leads_behind = record {
      line = (line.instr, line.told);
      stands = line.stands.1;
      address = subst (λ a. LeadsOn line.instr a one.after.address) fits.address one.address;
      owner = sym owner;
      inside = sym inside;
    }

    abbrev core_behind : Core
    core_behind = record c { processor = one.after; pending = one.pending }

    fits_behind : RunsAtPoints img core_behind behind qs
    fits_behind = record {
      running = record {
        point = Leads p behind fits.running.point leads_behind;
        frame = one.frame ∙ fits.running.frame;
        saves = one.saves (base_under qs) (is_starting p.owner) fits.running.saves;
      };
      stack = stacked_alike img p behind refl qs c.below fits.stack;
      address = refl;
      basepri = one.basepri ∙ fits.basepri;
      primask = one.primask ∙ fits.primask;
      memory = one.memory ∙ fits.memory;
      caller = fits.caller;
      alarm = fits.alarm;
      stopped = fits.stopped;
    }

    pub advances : Steps img c p qs
    advances = record {
      core = core_behind;
      shown = one.shown;
      is = line_steps line picked ∙ one.is;
      point = behind;
      below = qs;
      fits = fits_behind;
      insides = silent_insides one.shown one.silent (p ∷ qs);
      free = silent_free one.shown one.silent (p ∷ qs);
      nested = silent_nested one.shown one.silent (p ∷ qs);
      returns = silent_returns one.shown one.silent (p ∷ qs);
      no_trap = silent_untrapped one.shown one.silent;
      started = λ before. before;
      ended = λ end. absurd (no_end one.shown one.silent end);
      how = Gone (record { none = picked; leads = leads_behind; owner = refl; below = refl }) refl one.silent;
    }

-- An instruction but `ret` gives no item that others see as an entry or a return.
use Rattle.std.proofs.Common.{◌≡◌, ◌∙◌, Bool, false, Option, Some, None, sym, refl, ap, subst}
use Rattle.std.specs.Prelude.{if◌then◌else◌, option_map, slice_get}
use Rattle.rt_ids.specs.Lists.{then_from}
use Rattle.rt_code.specs.Effect as model
use Rattle.rt_code.specs.Image.{Image}
use Rattle.rt_code.specs.Processor.{Effect, Leads, Traps}
use Rattle.rt_code.specs.declared.instr.Instr.{Instr}
use Rattle.rt_code.specs.declared.instr.Note.{Note}
use Rattle.rt_code.specs.declared.instr.Note.TheVariants as note
use Rattle.rt_code.specs.declared.processor.Trap.TheVariants as trap
use Rattle.rt_core.specs.Core.{Core}
use Rattle.rt_core.specs.Note.{item_of_note}
use Rattle.rt_core.specs.Outcome.{Outcome, Done, Trapped, settle}
use Rattle.rt_core.specs.Priority.{pick}
use Rattle.rt_core.specs.Stepping.{answer, attempt, go_on, outcome_of_note, run, step, with_note}
use Rattle.rt_trace.specs.Label.{Stepped}
use Rattle.rt_trace.specs.declared.item.What.{What}
use Rattle.rt_trace.specs.declared.item.What.TheVariants as what
use Rattle.rt_native_laws.specs.Doing.{UnlessTrapped, outcome, seen_of}
use Rattle.rt_native_laws.specs.Going.{StepsBy}
use Rattle.rt_native_laws.specs.Simulating.{seen_of_label}
use Rattle.rt_native_laws.proofs.Stepping.{trapped}

-- others see an item as what it says
abbrev pub IsShownAsSaid : Option What → Type 0
IsShownAsSaid said = seen_of_label (Stepped said) ≡ seen_of said

module _ (w : What) where
  is_it : (v : What) → Some v ≡ Some w → IsShownAsSaid (Some v) → IsShownAsSaid (Some w)
  is_it v e h = let exact : v ≡ w = cc in subst (λ (x : What). IsShownAsSaid (Some x)) exact h

  mapped : {A : Type 0} (f : A → What) (o : Option A) → ((a : A) → IsShownAsSaid (Some (f a))) → option_map f o ≡ Some w
      → IsShownAsSaid (Some w)
  mapped f (Some a) h e = is_it (f a) e (h a)
  mapped f None h e = absurd (cc)

  chained : {A : Type 0} (f : A → Option What) (o : Option A) → ((a : A) → f a ≡ Some w → IsShownAsSaid (Some w))
      → then_from o f ≡ Some w → IsShownAsSaid (Some w)
  chained f (Some a) h e = h a e
  chained f None h e = absurd (cc)

  note_shown : (img : Image) (c : Core) (n : Note) → item_of_note img c n ≡ Some w → IsShownAsSaid (Some w)
  note_shown img c (note.Enter s) e = is_it _ e refl
  note_shown img c (note.Leave s) e = is_it _ e refl
  note_shown img c (note.Placed t) e = is_it _ e refl
  note_shown img c (note.Full t) e = is_it _ e refl
  note_shown img c (note.Ready t) e = is_it _ e refl
  note_shown img c (note.Start t from) e = mapped (what.Start t) _ (λ a. refl) e
  note_shown img c (note.Free t) e = is_it _ e refl
  note_shown img c (note.Arm t s) e = mapped (what.Arm t) _ (λ a. refl) e
  note_shown img c (note.Fire t) e = is_it _ e refl
  note_shown img c (note.Cancel t s) e = mapped (what.Cancel t) _ (λ a. refl) e
  note_shown img c (note.Move t s a) e =
      chained _ (slice_get c.processor.slots s)
      (λ handle f. mapped (what.Move t handle) (slice_get c.processor.slots a) (λ x. refl) f) e
  note_shown img c (note.End b) e = is_it _ e refl

module _ (d : Core) (said : Option What) (goes : d.stopped ≡ false) where
  same_item : (c : Core) (w : Option What) → settle (Done c w) ≡ (d, said) → IsShownAsSaid w → IsShownAsSaid said
  same_item c w e h = subst IsShownAsSaid (ap (λ (x : Core × Option What). x.1) e) h

  told : (img : Image) (c : Core) (n : Note) (o : Option What) → item_of_note img c n ≡ o
      → settle (outcome_of_note c o) ≡ (d, said) → IsShownAsSaid said
  told img c n None h e = absurd (trapped d said goes c trap.Stack e)
  told img c n (Some w) h e = same_item c (Some w) e (note_shown w img c n h)

  noted : (img : Image) (n : Option Note) (o : Outcome) → UnlessTrapped o (λ k w. IsShownAsSaid w)
      → settle (with_note img n o) ≡ (d, said) → IsShownAsSaid said
  noted img None (Trapped c t) h e = absurd (trapped d said goes c t e)
  noted img None (Done c w) h e = same_item c w e h
  noted img (Some n) (Trapped c t) h e = absurd (trapped d said goes c t e)
  noted img (Some n) (Done c None) h e = told img c n (item_of_note img c n) refl e
  noted img (Some n) (Done c (Some w)) h e = same_item c (Some w) e h

  gone : (img : Image) (c : Core) (n : Option Note) (x : Effect)
      → UnlessTrapped (go_on img c None x) (λ k w. IsShownAsSaid w)
      → settle (go_on img c n x) ≡ (d, said) → IsShownAsSaid said
  gone img c n (Traps t) h e = absurd (trapped d said goes c t e)
  gone img c n (Leads q asked) h e = noted img n (answer img (record c { processor = q }) asked) h e

-- the item of a step
pub step_is_shown : (img : Image) (i : Instr) (c d : Core) (said : Option What) → StepsBy img i c d said
    → UnlessTrapped (outcome img i c) (λ k w. IsShownAsSaid w) → IsShownAsSaid said
unfolding step
step_is_shown img i c d said s h =
    let to : settle (go_on img c s.note (model.effect i c.time c.processor)) ≡ (d, said) =
    sym (ap (λ (b : Bool). if b then (c, None) else settle (attempt img c (pick img c))) s.goes
    ∙ (ap (λ o. settle (attempt img c o)) s.takes_none
    ∙ ap (λ o. settle (run img c o)) s.line)) ∙ s.steps in
    gone d said s.no_trap img c s.note (model.effect i c.time c.processor) h to

-- What a step of the core says of the outcome of its instruction: notes aside it is the same.
use Rattle.std.proofs.Common.{◌≡◌, ◌∙◌, Bool, false, [], Option, Some, None, sym, refl, ap, subst}
use Rattle.std.proofs.lemmas.Bool.{false≢true}
use Rattle.std.specs.Prelude.{if◌then◌else◌, option_map, slice_get}
use Rattle.rt_ids.specs.Lists.{then_from}
use Rattle.rt_code.specs.Effect as model
use Rattle.rt_code.specs.Image.{Image}
use Rattle.rt_code.specs.Processor.{Effect, Traps, Leads}
use Rattle.rt_code.specs.declared.instr.Instr.{Instr}
use Rattle.rt_code.specs.declared.instr.Note.{Note}
use Rattle.rt_code.specs.declared.instr.Note.TheVariants as note
use Rattle.rt_code.specs.declared.processor.Trap.{Trap}
use Rattle.rt_code.specs.declared.processor.Trap.TheVariants as trap
use Rattle.rt_core.specs.Core.{Core}
use Rattle.rt_core.specs.Note.{item_of_note}
use Rattle.rt_core.specs.Outcome.{Outcome, Trapped, Done, settle}
use Rattle.rt_core.specs.Priority.{pick}
use Rattle.rt_core.specs.Stepping.{step, attempt, run, go_on, answer, with_note, outcome_of_note}
use Rattle.rt_trace.specs.declared.item.What.{What}
use Rattle.rt_trace.specs.declared.item.What.TheVariants as what
use Rattle.rt_native_laws.specs.Doing.{UnlessTrapped, outcome, seen_of}
use Rattle.rt_native_laws.specs.Going.{StepsBy}

-- others see nothing of the item of a note
abbrev IsUnseen : What → Type 0
IsUnseen w = seen_of (Some w) ≡ []

module _ (w : What) where
  is_it : (v : What) → Some v ≡ Some w → IsUnseen v → IsUnseen w
  is_it v e h = let exact : v ≡ w = cc in subst IsUnseen exact h

  mapped : {A : Type 0} (f : A → What) (o : Option A) → ((a : A) → IsUnseen (f a)) → option_map f o ≡ Some w
      → IsUnseen w
  mapped f (Some a) h e = is_it (f a) e (h a)
  mapped f None h e = absurd (cc)

  chained : {A : Type 0} (f : A → Option What) (o : Option A) → ((a : A) → f a ≡ Some w → IsUnseen w)
      → then_from o f ≡ Some w → IsUnseen w
  chained f (Some a) h e = h a e
  chained f None h e = absurd (cc)

  note_unseen : (img : Image) (c : Core) (n : Note) → item_of_note img c n ≡ Some w → IsUnseen w
  note_unseen img c (note.Enter s) e = is_it _ e refl
  note_unseen img c (note.Leave s) e = is_it _ e refl
  note_unseen img c (note.Placed t) e = is_it _ e refl
  note_unseen img c (note.Full t) e = is_it _ e refl
  note_unseen img c (note.Ready t) e = is_it _ e refl
  note_unseen img c (note.Start t from) e = mapped (what.Start t) _ (λ a. refl) e
  note_unseen img c (note.Free t) e = is_it _ e refl
  note_unseen img c (note.Arm t s) e = mapped (what.Arm t) _ (λ a. refl) e
  note_unseen img c (note.Fire t) e = is_it _ e refl
  note_unseen img c (note.Cancel t s) e = mapped (what.Cancel t) _ (λ a. refl) e
  note_unseen img c (note.Move t s a) e =
      chained _ (slice_get c.processor.slots s)
      (λ handle f. mapped (what.Move t handle) (slice_get c.processor.slots a) (λ x. refl) f) e
  note_unseen img c (note.End b) e = is_it _ e refl

-- an outcome is no trap, and leads to a core, with an item of which others see the same
pub record Leads_to (o : Outcome) (d : Core) (said : Option What) : Type 0 where
  pub own : Option What
  pub is : o ≡ Done d own
  pub same : seen_of own ≡ seen_of said

module _ (d : Core) (said : Option What) (goes : d.stopped ≡ false) where
  first_is : (o : Outcome) → settle o ≡ (d, said) → (settle o).0 ≡ d
  first_is o e = ap (λ (x : Core × Option What). x.0) e

  second_is : (o : Outcome) → settle o ≡ (d, said) → (settle o).1 ≡ said
  second_is o e = ap (λ (x : Core × Option What). x.1) e

  -- a trap would have stopped the core
  pub trapped : (c : Core) (t : Trap) → settle (Trapped c t) ≡ (d, said) → ⊥
  trapped c t e = false≢true (sym goes ∙ sym (ap (λ (x : Core). x.stopped) (first_is (Trapped c t) e)))

  plain : (c : Core) (w : Option What) → settle (Done c w) ≡ (d, said) → Leads_to (Done c w) d said
  plain c w e = record {
    own = w;
    is = ap (λ (x : Core). Done x w) (first_is (Done c w) e);
    same = ap seen_of (second_is (Done c w) e);
  }

  told : (img : Image) (c : Core) (n : Note) (o : Option What) → item_of_note img c n ≡ o
      → settle (outcome_of_note c o) ≡ (d, said) → Leads_to (Done c None) d said
  told img c n None h e = absurd (trapped c trap.Stack e)
  told img c n (Some w) h e = record {
    own = None;
    is = ap (λ (x : Core). Done x None) (first_is (Done c (Some w)) e);
    same = sym (note_unseen w img c n h) ∙ ap seen_of (second_is (Done c (Some w)) e);
  }

  noted : (img : Image) (n : Option Note) (o : Outcome) → settle (with_note img n o) ≡ (d, said) → Leads_to o d said
  noted img None (Trapped c t) e = absurd (trapped c t e)
  noted img None (Done c w) e = plain c w e
  noted img (Some n) (Trapped c t) e = absurd (trapped c t e)
  noted img (Some n) (Done c None) e = told img c n (item_of_note img c n) refl e
  noted img (Some n) (Done c (Some w)) e = plain c (Some w) e

  gone : (img : Image) (c : Core) (n : Option Note) (x : Effect) → settle (go_on img c n x) ≡ (d, said)
      → Leads_to (go_on img c None x) d said
  gone img c n (Traps t) e = absurd (trapped c t e)
  gone img c n (Leads q asked) e = noted img n (answer img (record c { processor = q }) asked) e

-- the step of a core is its instruction's outcome
pub outcome_is : (img : Image) (i : Instr) (c d : Core) (said : Option What) → StepsBy img i c d said
    → Leads_to (outcome img i c) d said
unfolding step
outcome_is img i c d said s =
    let to : settle (go_on img c s.note (model.effect i c.time c.processor)) ≡ (d, said) =
    sym (ap (λ (b : Bool). if b then (c, None) else settle (attempt img c (pick img c))) s.goes
    ∙ (ap (λ o. settle (attempt img c o)) s.takes_none
    ∙ ap (λ o. settle (run img c o)) s.line)) ∙ s.steps in
    gone d said s.no_trap img c s.note (model.effect i c.time c.processor) to

-- what holds of an outcome that is no trap holds of the core after the step
pub after_step : (img : Image) (i : Instr) (c d : Core) (said : Option What) (s : StepsBy img i c d said)
    (Holds : Core → Option What → Type 0) → UnlessTrapped (outcome img i c) Holds
    → Holds d (outcome_is img i c d said s).own
after_step img i c d said s Holds h =
    subst (λ (o : Outcome). UnlessTrapped o Holds) (outcome_is img i c d said s).is h

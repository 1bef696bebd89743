use Rattle.std.proofs.Common.{◌≡◌, ℕ, List, length, refl, sym, ap, subst, ◌∙◌}
use Rattle.rt_stack.specs.Top.{with_top}
use Rattle.rt_code.specs.Processor.{processor, HasEffect}
use Rattle.rt_code.specs.Effect.{effect}
use Rattle.rt_context.specs.declared.frames.Frames.TheInside.{Inside}
use Rattle.rt_context.specs.Frames.{Frames}
use Rattle.rt_context.specs.Inside.Parts.{frames, Represents}
use Rattle.rt_context.proofs.Representing.{represented, kept}
use Rattle.rt_context.proofs.Running.{seen, top_is}
use Rattle.rt_context.proofs.Writing.{written, represents_written, rest_is}
use Rattle.rt_context.proofs.frames.Frames.execute.Goals as goal
use Rattle.rt_context.proofs.frames.Frames.execute.Goals.{After-execute}

abbrev after : After-execute → Inside
after c = record {
  region = with_top c.self.inside.region c.self.inside.frame c.execute.new.slots;
  entry =
      c.self.inside.entry;
  frame = c.self.inside.frame;
  caller = c.self.inside.caller;
  callers = c.self.inside.callers;
}

represents : (c : After-execute) → Represents (written c.args.self.now c.execute.new.slots) (after c)
represents c =
    let s = seen c.args.self.now c.self.inside c.self.invariant c.self.view_is in
    let long : length c.execute.new.slots ≡ c.self.inside.frame = c.execute.auto.slots ∙ c.top-slots.ensures.len in
    represents_written c.args.self.now c.self.inside (after c) c.execute.new.slots s long
    (c.top-slots.ensures.below_stays c.execute.new.slots long) refl refl refl refl

pub invariant_of-self : goal.invariant_of-self
invariant_of-self c = kept _ _ (represents (goal.at.invariant_of-self c).After-execute)

view : (c : After-execute) → frames (after c) ≡ written c.args.self.now c.execute.new.slots
view c = represented _ _ (represents c)

pub returns-clause-effect : goal.returns-clause-effect
returns-clause-effect c =
    let a = c.args in
    let e = c.execute in
    let s = seen a.self.now c.self.inside c.self.invariant c.self.view_is in
    let P : List ℕ → List ℕ → Type 0 = λ old new.
    HasEffect e.result (processor a.registers.now old a.cells.now) (processor e.new.registers new e.new.cells)
    (effect a.instr a.time (processor a.registers.now old a.cells.now)) in
    let written_slots = sym (ap (λ (f : Frames). f.slots) (view (goal.at.returns-clause-effect c).After-execute)) in
    subst (λ new. P a.self.now.slots new) written_slots (subst (λ old. P old e.new.slots)
    (c.top-slots.ensures.value ∙ top_is a.self.now c.self.inside s) e.ensures)

pub returns-clause-rest : goal.returns-clause-rest
returns-clause-rest c =
    rest_is c.args.self.now _ c.execute.new.slots (view (goal.at.returns-clause-rest c).After-execute)

pub returns-clause-words : goal.returns-clause-words
returns-clause-words c =
    let s = seen c.args.self.now c.self.inside c.self.invariant c.self.view_is in
    ap (λ (f : Frames). length f.slots) (view (goal.at.returns-clause-words c).After-execute) ∙ c.execute.auto.slots
    ∙ c.top-slots.ensures.len ∙ s.frame

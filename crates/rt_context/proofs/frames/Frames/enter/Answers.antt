use Rattle.std.proofs.Common.{None, sym, ap, ◌∙◌, refl, arith}
use Rattle.rt_stack.specs.Region.{top, region_after_push}
use Rattle.rt_context.specs.Moves.{frames_after_entry}
use Rattle.rt_context.specs.Inside.Parts.{Represents}
use Rattle.rt_context.proofs.Representing.{represented, kept}
use Rattle.rt_context.proofs.Running.{seen}
use Rattle.rt_context.proofs.Entering.{entry_fits, frame_fits, represents_entered}
use Rattle.rt_context.proofs.frames.Frames.enter.Goals as goal
use Rattle.rt_context.proofs.frames.Frames.enter.Goals.{After-push-3}

pub push-requires-clause-fits : goal.push-requires-clause-fits
push-requires-clause-fits c =
    let s = seen c.args.self.now c.self.inside c.self.invariant c.self.view_is in
    let fits = entry_fits c.args.self.now c.self.inside c.args.words c.saturating_add.result s c.saturating_add.ensures
    (sym c.has_room.ensures.fits ∙ c.if-not-has_room.false) in
    omega (arith, fits)

pub push-requires-2 : goal.push-requires-2
push-requires-2 c =
    let s = seen c.args.self.now c.self.inside c.self.invariant c.self.view_is in
    let fits = entry_fits c.args.self.now c.self.inside c.args.words c.saturating_add.result s c.saturating_add.ensures
    (sym c.has_room.ensures.fits ∙ c.if-not-has_room.false) in
    frame_fits c.args.self.now c.self.inside c.push.new.region
    (record {
      number = c.args.number;
      address = c.args.address;
      slots =
          top c.self.inside.region c.self.inside.frame;
      caller = None;
    }) c.args.words s c.push.ensures fits

represents : (c : After-push-3)
    → Represents (frames_after_entry c.args.self.now c.args.number c.args.address c.args.words)
    (record {
      region = c.push-2.new.self;
      entry = c.self.inside.entry;
      frame = c.args.words;
      caller = None;
      callers =
          c.push-3.new.self;
    })
represents c =
    let s = seen c.args.self.now c.self.inside c.self.invariant c.self.view_is in
    let region = c.push-2.ensures ∙ ap (λ r. region_after_push r c.args.words) c.push.ensures in
    represents_entered c.args.self.now c.self.inside _ c.args.number c.args.address c.args.words s region refl refl refl
    c.push-3.ensures.items

pub invariant_of-self : goal.invariant_of-self
invariant_of-self c = kept _ _ (represents (goal.at.invariant_of-self c).After-push-3)

pub returns-clause-entered : goal.returns-clause-entered
returns-clause-entered c = λ _. represented _ _ (represents (goal.at.returns-clause-entered c).After-push-3)

use Rattle.std.proofs.Common.{Some, refl, sym, ◌∙◌}
use Rattle.rt_context.specs.Moves.{frames_after_call}
use Rattle.rt_context.specs.Inside.Parts.{Represents}
use Rattle.rt_context.proofs.Representing.{represented, kept}
use Rattle.rt_context.proofs.Running.{seen, fits_from_room}
use Rattle.rt_context.proofs.Calling.{MayCall, tested, represents_called}
use Rattle.rt_context.proofs.frames.Frames.call.Goals as goal
use Rattle.rt_context.proofs.frames.Frames.call.Goals.{After-from-args, After-push}

may : (c : After-from-args) → MayCall c.args.self.now c.args.row c.args.from
may c =
    tested c.args.self.now c.args.row c.args.from c.requires.may (sym c.call_fits.ensures ∙ c.if-not-call_fits.false)

pub push-requires-clause-fits : goal.push-requires-clause-fits
push-requires-clause-fits c =
    let s = seen c.args.self.now c.self.inside c.self.invariant c.self.view_is in
    fits_from_room c.args.self.now c.self.inside c.args.row.frame s
    (may (goal.at.push-requires-clause-fits c).After-from-args).room

represents : (c : After-push) → MayCall c.args.self.now c.args.row c.args.from
    → Represents (frames_after_call c.args.self.now c.args.row c.args.from c.args.address)
    (record {
      region = c.push.new.region;
      entry = c.self.inside.entry;
      frame = c.args.row.frame;
      caller =
          Some c.self.inside.frame;
      callers = c.self.inside.callers;
    })
represents c may =
    let s = seen c.args.self.now c.self.inside c.self.invariant c.self.view_is in
    represents_called c.args.self.now c.self.inside _ c.args.row c.args.from c.from-args.result c.args.address s may
    c.from-args.ensures c.push.ensures refl refl refl refl

pub invariant_of-self : goal.invariant_of-self
invariant_of-self c =
    kept _ _ (represents (goal.at.invariant_of-self c).After-push (may (goal.at.invariant_of-self c).After-from-args))

pub returns-clause-called : goal.returns-clause-called
returns-clause-called c = λ _.
    represented _ _ (represents (goal.at.returns-clause-called c).After-push
    (may (goal.at.returns-clause-called c).After-from-args))

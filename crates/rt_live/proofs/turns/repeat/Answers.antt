use Rattle.rt_live.proofs.Vocabulary.{Event, Goes, HasName, Image, List, arith, event_of, event_turns, length-replicate}
use Rattle.rt_live.proofs.Vocabulary.{refl, replicate, subst, sym, take, take_all, true, with_looks, ◌+◌, ◌∙◌}
use Rattle.std.proofs.lemmas.List.{get_or-replicate, length-take-le}
use Rattle.rt_live.proofs.Turning.{can_behind, each_cut, each_more, gave_up, goes_none, same_image}
use Rattle.rt_live.proofs.turns.repeat.Goals as goal

pub loop-done-init : goal.loop-done-init
loop-done-init g c = record { run = goes_none; quiet = refl }

pub turn-requires-clause-can : goal.turn-requires-clause-can
turn-requires-clause-can g c =
    let all : List Event = replicate c.args.times (event_of c.args.asked.now) in
    can_behind (take c.loop-done._done all) c.loop-done.invariant.run 1 c.requires.can
    (omega (
      arith,
      length-take-le c.loop-done._done all (omega (arith, length-replicate c.args.times (event_of c.args.asked.now))),
    ))

pub turn-requires-clause-declared : goal.turn-requires-clause-declared
turn-requires-clause-declared g c =
    subst (λ (img : Image). HasName img.names c.args.asked.now) (sym (same_image c.loop-done.invariant.run))
    c.requires.declared

-- the event is the next of so many
pub returns-in_err-turn-clause-goes : goal.returns-in_err-turn-clause-goes
returns-in_err-turn-clause-goes g c =
    let e : Event = event_of c.args.asked.now in
    let n = c.loop-done._done in
    rw (gave_up _ c.from_residual.result c.from_residual.ensures.1)
    (each_cut event_turns (replicate c.args.times e) (n + 1)
    (each_more event_turns (replicate c.args.times e) n e (omega (arith, length-replicate c.args.times e))
    (sym (get_or-replicate c.args.times n e e (omega arith))) c.loop-done.invariant.run c.in_err-turn.ensures.goes))

pub loop-done-preserved : goal.loop-done-preserved
loop-done-preserved g c =
    let e : Event = event_of c.args.asked.now in
    let n = c.loop-done._done in
    record {
      run =
          each_more event_turns (replicate c.args.times e) n e (omega (arith, length-replicate c.args.times e))
          (sym (get_or-replicate c.args.times n e e (omega arith))) c.loop-done.invariant.run c.in_ok-turn.ensures.goes;
      quiet = c.in_ok-turn.ensures.quiet ∙ c.loop-done.invariant.quiet;
    }

pub returns-clause-goes : goal.returns-clause-goes
returns-clause-goes g c =
    let all : List Event = replicate c.args.times (event_of c.args.asked.now) in
    subst (λ es. Goes (g.T.Routes.leads c.args.role.now.routes) (with_looks es) true c.args.line.now c.loop-done.line
    c.args.core.now c.loop-done.core (g.K.Sink.taken c.args.out.now) (g.K.Sink.taken c.loop-done.out))
    (take_all c.loop-done._done all (omega (arith, length-replicate c.args.times (event_of c.args.asked.now))))
    c.loop-done.invariant.run

use Rattle.std.proofs.Common.{◌≡◌, ◌-◌, replicate, refl, arith, subst, ◌∙◌}
use Rattle.rt_lemmas.proofs.Results.{on_err_from}
use Rattle.rt_ids.specs.Event.{Step}
use Rattle.rt_run.specs.Inside.Writing.{Writes}
use Rattle.rt_run.proofs.Known.{still_writable, room_for_left}
use Rattle.rt_run.proofs.Advancing.{nothing_yet, some_more, left_cut}
use Rattle.rt_run.proofs.script.run_steps.Goals as goal

pub loop-left-init : goal.loop-left-init
loop-left-init g c =
    let none : 0 ≡ c.args.count - c.args.count = omega arith in
    record {
      run =
          subst (λ n. Writes (replicate n Step) c.args.core.now c.args.core.now
          (g.K.Sink.taken c.args.out.now) (g.K.Sink.taken c.args.out.now) c.args.held.now c.args.held.now) none
          (nothing_yet c.args.core.now _ c.args.held.now);
      within = omega arith;
      quiet = refl;
    }

pub run_to_item-requires-clause-writable : goal.run_to_item-requires-clause-writable
run_to_item-requires-clause-writable g c =
    still_writable (replicate (c.args.count - c.loop-left.left) Step) c.args.core.now _ c.loop-left.invariant.run.leads
    c.requires.writable

pub run_to_item-requires-clause-few : goal.run_to_item-requires-clause-few
run_to_item-requires-clause-few g c =
    room_for_left c.args.count c.loop-left.left Step c.args.core.now _ c.loop-left.invariant.run.leads
    c.loop-left.invariant.within c.requires.few

pub returns-in_err-left-clause-err : goal.returns-in_err-left-clause-err
returns-in_err-left-clause-err g c =
    on_err_from c.from_residual.result
    (left_cut c.args.count c.loop-left.left Step c.args.core.now _ c.run_to_item.new.core _ _ _ c.args.held.now _
    c.loop-left.invariant.within c.loop-left.invariant.run c.in_err-left.ensures.err)

pub loop-left-preserved : goal.loop-left-preserved
loop-left-preserved g c = record {
  run =
      some_more c.args.count c.loop-left.left _ Step c.args.core.now _ c.run_to_item.new.core _ _ _ c.args.held.now _
      c.run_to_item.new.held c.loop-left.invariant.within (omega (arith, c.in_ok-left.ensures.fewer))
      c.loop-left.invariant.run c.in_ok-left.ensures.ok;
  within = omega (arith, c.in_ok-left.ensures.fewer, c.loop-left.invariant.within);
  quiet = c.in_ok-left.ensures.quiet ∙ c.loop-left.invariant.quiet;
}

use Rattle.rt_live.proofs.Vocabulary.{All, AllByRecursion, Caller as Line, CanWork, IRQ_NUMBERS, ap, arith, count}
use Rattle.rt_live.proofs.Vocabulary.{length, own_events, subst, sym, ◌+◌, ◌<◌, ◌∙◌}
use Rattle.rt_live.proofs.Turning.{can_behind, can_fewer, gave_up, own_length, steps_below}
use Rattle.rt_live.proofs.Readied.{are_gathered, beside_ended, can_gathered, can_ready, can_work, few_ended, rows_empty}
use Rattle.rt_live.proofs.Readied.{rows_irqs, still_gathered, written_back}
use Rattle.rt_live.proofs.{Ended.own_cut, Ended.own_ends, Ended.own_few, Woven.events_own}
use Rattle.rt_live.specs.declared.share.Share.TheVariants.{BesideDevices}
use Rattle.rt_live.proofs.beside.go.Goals as goal

pub beside-done-requires-clause-can : goal.beside-done-requires-clause-can
beside-done-requires-clause-can g c = λ _ _.
    can_fewer (count c.args.script.now) (can_ready c.requires.fresh c.requires.lines c.requires.ready) (omega arith)

pub beside-done-requires-clause-declared : goal.beside-done-requires-clause-declared
beside-done-requires-clause-declared g c = λ _ _. c.requires.ready.named

pub beside-done-requires-clause-work : goal.beside-done-requires-clause-work
beside-done-requires-clause-work g c = λ _ _.
    subst (All (CanWork c.args.words.now)) (sym c.deref_mut.ensures.value) (can_work c.requires.ready)

pub gather_all-requires-clause-first : goal.gather_all-requires-clause-first
gather_all-requires-clause-first g c =
    ap (λ (l : Line). l.number) c.beside-done.ensures.goes.same ∙ ap (λ (l : Line). l.number) c.requires.ready.first

pub gather_all-requires-clause-devices : goal.gather_all-requires-clause-devices
gather_all-requires-clause-devices g c =
    beside_ended c.requires.ready
    _ (written_back c.args.devices.len c.beside-done.new.devices c.deref_mut.ensures.value c.deref_mut.ensures.len
    c.beside-done.auto.devices c.beside-done.ensures.worked)

pub gather_all-requires-clause-few : goal.gather_all-requires-clause-few
gather_all-requires-clause-few g c =
    few_ended c.requires.ready
    _ (written_back c.args.devices.len c.beside-done.new.devices c.deref_mut.ensures.value c.deref_mut.ensures.len
    c.beside-done.auto.devices c.beside-done.ensures.worked)

pub gather_all-requires-clause-empty : goal.gather_all-requires-clause-empty
gather_all-requires-clause-empty g c = rows_empty c.requires.ready

pub gather_all-requires-clause-in_range : goal.gather_all-requires-clause-in_range
gather_all-requires-clause-in_range g c =
    subst (AllByRecursion (λ irq. irq < IRQ_NUMBERS)) (sym (rows_irqs c.requires.ready)) c.requires.ready.in_range

pub returns-in_err-done-clause-gathered : goal.returns-in_err-done-clause-gathered
returns-in_err-done-clause-gathered g c =
    let ready = c.requires.ready in
    let goes = c.beside-done.ensures.goes in
    let gathers = c.gather_all.ensures in
    are_gathered ready
    _ (written_back c.args.devices.len c.beside-done.new.devices c.deref_mut.ensures.value c.deref_mut.ensures.len
    c.beside-done.auto.devices c.beside-done.ensures.worked) goes.calls goes.same
    (own_few c.args.script.now ready.first goes) gathers.line gathers.since gathers.rows

pub returns-clause-gathered : goal.returns-clause-gathered
returns-clause-gathered g c =
    let ready = c.requires.ready in
    let goes = c.beside-done.ensures.goes in
    let gathers = c.gather_all.ensures in
    still_gathered (are_gathered ready
    _ (written_back c.args.devices.len c.beside-done.new.devices c.deref_mut.ensures.value c.deref_mut.ensures.len
    c.beside-done.auto.devices c.beside-done.ensures.worked) goes.calls goes.same
    (own_few c.args.script.now ready.first goes) gathers.line gathers.since gathers.rows)
    c.end.ensures.ends.calls c.end.ensures.ends.same

pub returns-in_err-done-clause-ended : goal.returns-in_err-done-clause-ended
returns-in_err-done-clause-ended g c =
    rw (gave_up _ c.from_residual.result c.from_residual.ensures.1)
    (own_cut c.args.script.now c.requires.ready.first c.gather_all.ensures.line c.in_err-done.ensures.goes)

pub end-requires : goal.end-requires
end-requires g c =
    let run = c.in_ok-done.ensures.goes in
    record {
      can =
          can_gathered _ c.gather_all.ensures.line
          (can_behind (own_events BesideDevices c.args.script.now) run (c.steps-steps.result + 1)
          (can_ready c.requires.fresh c.requires.lines c.requires.ready)
          (omega (
            arith,
            c.steps-steps.ensures,
            steps_below run,
            ap length (events_own (own_events BesideDevices c.args.script.now)),
            c.requires.fresh.steps,
            own_length BesideDevices c.args.script.now,
          )));
    }

pub returns-clause-ended : goal.returns-clause-ended
returns-clause-ended g c =
    own_ends c.args.script.now c.requires.ready.first c.gather_all.ensures.line c.requires.fresh
    c.in_ok-done.ensures.goes c.steps-steps.ensures c.end.ensures.ends

use Rattle.std.proofs.Common.{map, ap, ◌∙◌}
use Rattle.rt_app.specs.View.{task_of}
use Rattle.rt_ceil.specs.Inside.Tables.{Tables}
use Rattle.rt_ceil.specs.Inside.Rows.{timer_row}
use Rattle.rt_ceil.proofs.Answer.{ceilings_are, free_fits, ready_fits, served_fits}
use Rattle.rt_ceil.proofs.guarded.ceilings.Goals as goal

pub free_rows-requires : goal.free_rows-requires
free_rows-requires c =
    free_fits c.args.app.now c.in_ok-tables.tables c.deref-3.result.now c.deref-2.result.now c.in_ok-tables.ensures
    c.deref-2.ensures.value (c.deref-3.ensures.value ∙ ap (λ (t : Tables). t.free) c.tables.view_is)

pub ready_rows-requires-clause-served : goal.ready_rows-requires-clause-served
ready_rows-requires-clause-served c = served_fits c.deref-4.result.now (map task_of c.deref.result.now)
    (c.deref-4.ensures.value ∙ c.in_ok-served.ensures)

pub ready_rows-requires-clause-table : goal.ready_rows-requires-clause-table
ready_rows-requires-clause-table c = ready_fits c.args.app.now c.in_ok-tables.tables c.deref-5.result.now
    c.in_ok-tables.ensures (c.deref-5.ensures.value ∙ ap (λ (t : Tables). t.ready) c.tables.view_is)

pub returns : goal.returns
returns c =
    let seen = c.tables.view_is in
    ceilings_are c.args.app.now c.in_ok-tables.tables _ c.deref-3.result.now c.deref-5.result.now c.deref-4.result.now
    c.deref.result.now c.deref-2.result.now c.in_ok-tables.ensures c.deref.ensures.value c.deref-2.ensures.value
    (c.deref-3.ensures.value ∙ ap (λ (t : Tables). t.free) seen)
    (c.deref-5.ensures.value ∙ ap (λ (t : Tables). t.ready) seen) (c.deref-4.ensures.value ∙ c.in_ok-served.ensures)
    (ap (λ (t : Tables). t.shared) seen)
    c.in_ok-free.ensures c.in_ok-ready.ensures (c.timer_row.ensures
    ∙ ap (λ (t : Tables). timer_row c.args.app.now.mono t.timer) seen)

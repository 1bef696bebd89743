use Rattle.rt_build.proofs.Assembled.{accepted_plan, is_made}
use Rattle.rt_build.proofs.image.build.Goals as goal

pub returns : goal.returns
returns c =
    let plan = c.in_ok-plan.plan in
    let made = c.in_ok-code.code in
    let tables = c.in_ok-tables.tables in
    let all = is_made plan made tables.stack.thread_words tables.stack.bytes tables.irqs.items tables.bodies.items
    tables.names c.assemble.result c.assemble.ensures
    (accepted_plan plan c.args.app.now c.in_ok-plan.ensures.of_app c.requires
    c.in_ok-plan.ensures.planned) c.in_ok-code.ensures c.args.app.now c.in_ok-plan.ensures.of_app
    c.in_ok-tables.ensures.words c.in_ok-tables.ensures.bytes c.in_ok-tables.ensures.irqs c.in_ok-tables.ensures.bodies
    c.in_ok-tables.ensures.names in
    record { image = all.image; built = all.built; cells = all.cells; runnable = all.runnable; lines = all.lines }

use Rattle.std.proofs.Common.{get_or, ap, ◌∙◌}
use Rattle.std.proofs.lemmas.Option.{slice_get-get_or}
use Rattle.rt_app.specs.declared.ceilings.ReadyCeiling.{ReadyCeiling}
use Rattle.rt_app.specs.BodyCost.{dispatcher_size}
use Rattle.rt_app.specs.View.{app_of}
use Rattle.rt_build.proofs.Abutting.{level_added}
use Rattle.rt_build.proofs.Grown.{adds_behind, dispatcher_put, next_level}
use Rattle.rt_build.proofs.Levels.{is_level, level_at}
use Rattle.rt_build.proofs.code.push_dispatchers.Goals as goal

pub gen_dispatcher-requires-clause-software : goal.gen_dispatcher-requires-clause-software
gen_dispatcher-requires-clause-software c =
    let rows = c.deref-row-items.ensures.value ∙ ap (λ p. p.ceil.ready) c.plan.view_is in
    let none : ReadyCeiling = record { level = 0; ceiling = 0 } in
    let row = get_or c.deref-row-items.result.now c.loop-row.row-index none in
    is_level (app_of c.args.plan.now.app.now) c.loop-row.row-index row.level
    (level_at c.args.plan.now c.requires.plan.planned c.deref-row-items.result.now rows c.loop-row.row-index row
    (slice_get-get_or c.deref-row-items.result.now c.loop-row.row-index none c.loop-row-test.true))

pub loop-row-preserved : goal.loop-row-preserved
loop-row-preserved c =
    let app = app_of c.args.plan.now.app.now in
    let rows = c.deref-row-items.ensures.value ∙ ap (λ p. p.ceil.ready) c.plan.view_is in
    let none : ReadyCeiling = record { level = 0; ceiling = 0 } in
    let row = get_or c.deref-row-items.result.now c.loop-row.row-index none in
    let there = level_at c.args.plan.now c.requires.plan.planned c.deref-row-items.result.now rows c.loop-row.row-index
    row (slice_get-get_or c.deref-row-items.result.now c.loop-row.row-index none c.loop-row-test.true) in
    let before = c.loop-row.lines.items in
    let after = c.gen_dispatcher.new.code.items in
    let entry = c.in_ok-gen_dispatcher.field-0 in
    let made = c.in_ok-gen_dispatcher.ensures in
    let own = adds_behind app (dispatcher_size app row.level) entry before after made.entry made.kept
    made.names made.size in
    let next = next_level app c.loop-row.row-index row.level entry c.args.lines.now.items before after
    c.loop-row.entries.items c.push.new.self.items there c.loop-row.invariant.counted c.loop-row.invariant.adds
    c.loop-row.invariant.stands c.in_ok-push.ensures.items own
    (dispatcher_put app row.level entry before after made.entry made.kept made.lines) in
    record {
      counted = next.0;
      adds = next.1;
      parts = level_added app c.args.lines.now.items before after c.loop-row.invariant.adds.kept own.kept
          c.loop-row.row-index row.level entry c.loop-row.entries.items c.push.new.self.items there
          c.loop-row.invariant.counted c.in_ok-push.ensures.items c.loop-row.invariant.parts made.entry made.size
          made.lines;
      stands = next.2;
    }

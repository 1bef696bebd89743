use Rattle.std.proofs.Common.{◌∷◌}
use Rattle.rt_app.specs.Declarations.{Used}
use Rattle.rt_rules.specs.Inside.Tables.{has}
use Rattle.rt_rules.proofs.Steps.{seen_at, used_table, used_more}
use Rattle.rt_rules.proofs.used.judge_uses.Goals as goal

pub loop-item-preserved : goal.loop-item-preserved
loop-item-preserved c =
    let x : Used = record { number = c.item.inside.number; at = c.item.inside.at } in
    let was = c.loop-item.invariant in (
      x.number ∷ was.0,
      used_table was.0 x.number (has c.loop-item.used) (has c.insert.new.self) was.1 c.in_ok-insert.ensures,
      used_more was.0 c.args.uses.now c.loop-item.item-index x c.loop-item.first c.offer_when.new.self _
          c.loop-item-test.true
          (seen_at c.args.uses.now c.loop-item.item-index x c.item-item.result c.item.view_is c.item-item.is) was.2
          (rw (← was.1 x.number, ← c.has.ensures) c.offer_when.ensures),
    )

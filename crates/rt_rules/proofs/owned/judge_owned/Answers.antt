use Rattle.std.proofs.Common.{◌∷◌}
use Rattle.rt_rules.specs.Inside.Tables.{has}
use Rattle.rt_rules.specs.Inside.View.{member_of}
use Rattle.rt_rules.proofs.Steps.{owned_table, owned_more}
use Rattle.rt_rules.proofs.owned.judge_owned.Goals as goal

pub loop-member-preserved : goal.loop-member-preserved
loop-member-preserved c =
    let was = c.loop-member.invariant in
    let x = c.member-item.result in (
      member_of x ∷ was.0,
      owned_table was.0 (member_of x) c.deref-in-loop-member.result.now (has c.loop-member.owned)
          (has c.insert_locals.new.owned) c.deref-in-loop-member.ensures.value was.1 c.in_ok-insert_locals.ensures,
      owned_more member_of (has c.loop-member.owned) was.0 c.args.members.now c.loop-member.member-index x
          c.deref.result.now c.loop-member.first c.judge_locals.new.first _ c.loop-member-test.true c.member-item.is
          c.deref.ensures.value was.1 was.2 c.judge_locals.ensures,
    )

use Rattle.std.proofs.Common.{map, ap, ◌∙◌}
use Rattle.rt_app.specs.View.{app_of}
use Rattle.rt_rules.specs.Inside.View.{member_of}
use Rattle.rt_rules.proofs.Declared.{all_judged}
use Rattle.rt_rules.proofs.verdict.first_violation.Goals as goal

pub returns : goal.returns
returns c =
    c.violation.ensures
    ∙ all_judged (app_of c.args.resolved.now.app) (map member_of c.deref-4.result.now)
    (map member_of c.deref-5.result.now) c.args.resolved.now.faults.items c.deref.result.now c.none-first.result
    c.offer_all.new.self c.judge_declarations.new.first
    c.judge_listings.new.first c.judge_statements.new.first c.judge_lengths.new.first
    (ap (map member_of) c.deref-4.ensures.value ∙ c.in_ok-bodies.ensures)
    (ap (map member_of) c.deref-5.ensures.value ∙ c.in_ok-bodies.ensures) c.deref.ensures.value c.none-first.ensures
    c.offer_all.ensures c.in_ok-judge_declarations.ensures c.in_ok-judge_listings.ensures
    c.in_ok-judge_statements.ensures c.judge_lengths.ensures

use Rattle.rt_live.proofs.Vocabulary.{arith, cause_on, count, last_turns, on_ok_weaker, own_events, ◌+◌, ◌∙◌}
use Rattle.rt_live.proofs.Ended.{ends_cut, ends_on}
use Rattle.rt_live.proofs.Turning.{own_length, can_fewer, can_behind, gave_up, goes_before}
use Rattle.rt_live.proofs.ending.run_turns.Goals as goal

pub own_lines-requires-clause-can : goal.own_lines-requires-clause-can
own_lines-requires-clause-can g c = can_fewer (count c.args.script.now) c.requires.can (omega arith)

pub returns-in_err-own_lines-clause-ends : goal.returns-in_err-own_lines-clause-ends
returns-in_err-own_lines-clause-ends g c =
    rw (gave_up _ c.from_residual.result c.from_residual.ensures.1)
    (ends_cut (goes_before (last_turns 0) c.in_err-own_lines.ensures.goes))

pub end-requires : goal.end-requires
end-requires g c =
    let share = c.args.role.now.share in
    record {
      can =
          can_behind (own_events share c.args.script.now) c.in_ok-own_lines.ensures.goes (0 + 1) c.requires.can
          (omega (arith, own_length share c.args.script.now));
    }

pub returns-clause-ends : goal.returns-clause-ends
returns-clause-ends g c = ends_on c.in_ok-own_lines.ensures.goes c.end.ensures.ends

pub returns-clause-cause : goal.returns-clause-cause
returns-clause-cause g c = cause_on _ _ _ c.end.result c.in_ok-own_lines.ensures.quiet c.end.ensures.cause

pub returns-clause-quiet : goal.returns-clause-quiet
returns-clause-quiet g c =
    on_ok_weaker c.end.result (λ same. same ∙ c.in_ok-own_lines.ensures.quiet) c.end.ensures.quiet

use Rattle.rt_live.proofs.Vocabulary.{Step, ap, arith, cause_on, length, length-replicate, on_ok_weaker, replicate}
use Rattle.rt_live.proofs.Vocabulary.{total_text, with_looks, ◌++◌, ◌∙◌}
use Rattle.rt_live.proofs.{Ended.ends_cut, Ended.total_ends, Turning.can_on, Turning.gave_up, Turning.goes_before}
use Rattle.rt_live.proofs.{Turning.goes_on, Turning.steps_below, Woven.events_own}
use Rattle.rt_live.proofs.ending.end.Goals as goal

pub returns-in_err-look-clause-ends : goal.returns-in_err-look-clause-ends
returns-in_err-look-clause-ends g c =
    rw (gave_up _ c.from_residual.result c.from_residual.ensures.1)
    (ends_cut (goes_before (with_looks (replicate c.args.steps Step)) (c.in_err-look.ensures.goes _)))

pub repeat-requires-clause-can : goal.repeat-requires-clause-can
repeat-requires-clause-can g c =
    can_on (c.in_ok-look.ensures.goes _) c.args.steps c.requires.can (omega arith) (omega arith)

pub returns-in_err-repeat-clause-ends : goal.returns-in_err-repeat-clause-ends
returns-in_err-repeat-clause-ends g c =
    rw (gave_up _ c.from_residual-in_err-repeat.result c.from_residual-in_err-repeat.ensures.1)
    (ends_cut (goes_on (c.in_ok-look.ensures.goes _) c.in_err-repeat.ensures.goes))

pub put_end-requires : goal.put_end-requires
put_end-requires g c = omega (
  arith,
  c.steps.ensures,
  steps_below (goes_on (c.in_ok-look.ensures.goes _) c.in_ok-repeat.ensures.goes),
  ap length (events_own (replicate c.args.steps Step)),
  length-replicate c.args.steps Step,
  c.requires.can.few,
)

pub returns-clause-ends : goal.returns-clause-ends
returns-clause-ends g c =
    total_ends c.put_end.result
    (ap (λ held. held ++ total_text c.steps.result) c.clear.ensures ∙ ap total_text c.steps.ensures)
    (goes_on (c.in_ok-look.ensures.goes _) c.in_ok-repeat.ensures.goes) c.put_end.ensures.ok c.put_end.ensures.err

pub returns-clause-cause : goal.returns-clause-cause
returns-clause-cause g c =
    cause_on _ _ _ c.put_end.result (c.in_ok-repeat.ensures.quiet ∙ c.in_ok-look.ensures.quiet) c.put_end.ensures.cause

pub returns-clause-quiet : goal.returns-clause-quiet
returns-clause-quiet g c =
    on_ok_weaker c.put_end.result (λ same. same ∙ c.in_ok-repeat.ensures.quiet ∙ c.in_ok-look.ensures.quiet)
    c.put_end.ensures.quiet

use Rattle.std.proofs.Common.{ap, sym, ◌∙◌}
use Rattle.std.specs.Option.{option_copied}
use Rattle.rt_baker_moves.specs.State.{AuditorState}
use Rattle.rt_baker_moves.proofs.Steps.{may, may_not, first_there}
use Rattle.rt_baker_moves.proofs.state.State.may_spend.Goals as goal

pub returns-in-Some-clause-may : goal.returns-in-Some-clause-may
returns-in-Some-clause-may c =
    λ is app t h.
    may app c.args.steps c.args.self.now c.may_spend.result (c.may_spend.ensures ∙ first_there c.args.steps
    c.deref.result.now c.args.self.now.jobs c.in-Some.job.now (c.deref.ensures.value ∙ ap (λ (s : AuditorState). s.jobs)
    c.self.view_is) (sym c.first.ensures.value ∙ ap option_copied c.in-Some.is)) is t h

pub returns-in-Some-clause-may_not : goal.returns-in-Some-clause-may_not
returns-in-Some-clause-may_not c =
    λ is app t h.
    may_not app c.args.steps c.args.self.now c.may_spend.result (c.may_spend.ensures ∙ first_there c.args.steps
    c.deref.result.now c.args.self.now.jobs c.in-Some.job.now (c.deref.ensures.value ∙ ap (λ (s : AuditorState). s.jobs)
    c.self.view_is) (sym c.first.ensures.value ∙ ap option_copied c.in-Some.is)) is t h

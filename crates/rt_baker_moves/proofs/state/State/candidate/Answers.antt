use Rattle.std.proofs.Common.{ℕ, List, slice_get, Option, None, sym, ap, ◌∙◌}
use Rattle.std.specs.Option.{option_copied}
use Rattle.rt_app.specs.View.{app_of}
use Rattle.rt_laws.specs.Services.{priority_of}
use Rattle.rt_baker_moves.specs.State.{AuditorState}
use Rattle.rt_baker_moves.specs.Inside.SystemCeiling.{kept_ceiling}
use Rattle.rt_baker_moves.specs.Inside.Waiting.{if_above}
use Rattle.rt_baker_moves.proofs.SystemCeiling.{candidate_is}
use Rattle.rt_baker_moves.proofs.state.State.candidate.Goals as goal

pub returns-in-None : goal.returns-in-None
returns-in-None c =
    λ t h.
    (let app = app_of c.args.machine.now.code.now.app.now in
    let s = c.args.self.now in
    candidate_is app s t None h (ap (λ (o : Option ℕ). if_above (priority_of app) (kept_ceiling app s.jobs) o) (sym (ap
    option_copied c.in-None.is) ∙ c.first.ensures.value ∙ ap (λ (irqs : List ℕ). slice_get irqs 0)
    (c.deref.ensures.value ∙ ap (λ (k : AuditorState). k.waiting) c.self.view_is))))

pub returns-in-Some : goal.returns-in-Some
returns-in-Some c =
    λ t h.
    (let app = app_of c.args.machine.now.code.now.app.now in
    let s = c.args.self.now in
    candidate_is app s t c.above.result h (c.above.ensures ∙ ap (λ (o : Option ℕ). if_above (priority_of app)
    (kept_ceiling app s.jobs) o) (sym (ap option_copied c.in-Some.is) ∙ c.first.ensures.value ∙ ap (λ (irqs : List ℕ).
    slice_get irqs 0) (c.deref.ensures.value ∙ ap (λ (k : AuditorState). k.waiting) c.self.view_is))))

use Rattle.std.proofs.Common.{length, sym, subst, ap, ◌∙◌, ◌≤◌}
use Rattle.std.specs.List.{AllByRecursion}
use Rattle.rt_app.specs.View.{app_of}
use Rattle.rt_app.specs.Bounds.{Bounds}
use Rattle.rt_app.proofs.Sound.{accepted_are_sound}
use Rattle.rt_rta.specs.Inside.Least.{IsSmall}
use Rattle.rt_rta.proofs.Least.{if_ok_weaker, loads_small, loads_few, are_responses}
use Rattle.rt_rta.proofs.search.times.Goals as goal

pub bounds-requires-clause-sound : goal.bounds-requires-clause-sound
bounds-requires-clause-sound c = accepted_are_sound (app_of c.args.app.now) c.requires.accepted

pub times_of-requires-clause-small : goal.times_of-requires-clause-small
times_of-requires-clause-small c =
    subst (AllByRecursion IsSmall) (sym (c.deref-2.ensures.value ∙ c.in_ok-all.ensures))
    (loads_small (app_of c.args.app.now) c.args.limits.now c.requires.limits)

pub times_of-requires-clause-few : goal.times_of-requires-clause-few
times_of-requires-clause-few c =
    subst (λ xs. length xs ≤ 64) (sym (c.deref-2.ensures.value ∙ c.in_ok-all.ensures))
    (loads_few (app_of c.args.app.now) c.args.limits.now c.requires.accepted.limits.few_tasks)

pub returns : goal.returns
returns c =
    let waits = c.deref.ensures.value ∙ ap (λ (b : Bounds). b.waits) (c.bounds-2.view_is ∙ c.in_ok-bounds.ensures) in
    if_ok_weaker c.times_of.result _ _
    (λ rows is. are_responses (app_of c.args.app.now) c.args.limits.now c.deref-2.result.now c.deref.result.now
    rows.items (c.deref-2.ensures.value ∙ c.in_ok-all.ensures) waits is)
    c.times_of.ensures

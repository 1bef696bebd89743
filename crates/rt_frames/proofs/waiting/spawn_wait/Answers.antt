use Rattle.std.proofs.Common.{rules, ◌<◌, subst, ◌∙◌}
use Rattle.std.proofs.lemmas.Option.{slice_get_within}
use Rattle.rt_app.specs.View.{spawn_of, app_of}
use Rattle.rt_app.specs.declared.costs.TheConstants.{PRIORITIES}
use Rattle.rt_frames.specs.Inside.Reached.{IsSpawnReached}
use Rattle.rt_frames.proofs.Reaching.{free_there, level_there}
use Rattle.rt_frames.proofs.waiting.spawn_wait.Goals as goal

pub free_at-free-requires : goal.free_at-free-requires
free_at-free-requires c =
    let h = subst (λ s. IsSpawnReached (app_of c.args.app.now) (spawn_of s)) c.in-Soon.is c.requires.reached in
    rw (c.from.ensures ∙ c.task.view_is)
    (free_there (app_of c.args.app.now) c.args.ceilings.now c.requires.ceilings c.in-Soon.task h.2.0 h.2.1.is_there
    h.2.1.software)

pub task_priority-requires : goal.task_priority-requires
task_priority-requires c =
    let h = subst (λ s. IsSpawnReached (app_of c.args.app.now) (spawn_of s)) c.in-Soon.is c.requires.reached in
    rw c.task.view_is (slice_get_within (app_of c.args.app.now).tasks c.in-Soon.task h.2.0 h.2.1.is_there)

pub ready_at-ready-requires : goal.ready_at-ready-requires
ready_at-ready-requires c =
    let h = subst (λ s. IsSpawnReached (app_of c.args.app.now) (spawn_of s)) c.in-Soon.is c.requires.reached in
    let few : c.task_priority.result < PRIORITIES = search rules in
    level_there (app_of c.args.app.now) c.args.ceilings.now c.requires.ceilings c.task.inside.0 c.task_priority.result
    h.2.0 (rw c.task.view_is h.2.1.is_there) h.2.1.software c.task_priority.ensures few

pub free_at-free-requires-in-After : goal.free_at-free-requires-in-After
free_at-free-requires-in-After c =
    let h = subst (λ s. IsSpawnReached (app_of c.args.app.now) (spawn_of s)) c.in-After.is c.requires.reached in
    rw (c.from-in-After.ensures ∙ c.task-in-After.view_is)
    (free_there (app_of c.args.app.now) c.args.ceilings.now c.requires.ceilings c.in-After.task h.2.0 h.2.1.is_there
    h.2.1.software)

pub free_at-free-requires-in-Cancel : goal.free_at-free-requires-in-Cancel
free_at-free-requires-in-Cancel c =
    let h = subst (λ s. IsSpawnReached (app_of c.args.app.now) (spawn_of s)) c.in-Cancel.is c.requires.reached in
    rw (c.from-in-Cancel.ensures ∙ c.task-in-Cancel.view_is)
    (free_there (app_of c.args.app.now) c.args.ceilings.now c.requires.ceilings c.in-Cancel.task h.2.0 h.2.1.is_there
    h.2.1.software)

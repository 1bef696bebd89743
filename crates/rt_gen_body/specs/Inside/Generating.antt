-- What a generator of code has, as the context of the definitions.
use Rattle.std.specs.Prelude.{◌≡◌, ℕ, List, length}
use Rattle.rt_app.specs.Accepted.{IsAccepted}
use Rattle.rt_app.specs.Frame.{first_expression_slot, first_lock_slot, first_spawn_slot}
use Rattle.rt_app.specs.Plan.{IsPlan}
use Rattle.rt_app.specs.View.{app_of}
use Rattle.rt_app.specs.Tree.{Body, App}
use Rattle.rt_gen_queue.specs.Line.{Line}
use Rattle.rt_gen_queue.specs.declared.guard.Guard.{Guard}
use Rattle.rt_gen_body.specs.ValueCode.{Context}
use Rattle.rt_gen_body.specs.BlockCode.{block_code}
use Rattle.rt_gen_body.specs.BodyCode.{guards_of}
use Rattle.rt_gen_body.specs.declared.generator.Generator.{Generator}

-- the context that a generator's fields are
abbrev pub context : Generator → Context
context g = record {
  app = app_of g.plan.now.app.now;
  guards = g.guards.now;
  locals = g.locals;
  expressions = g.expressions;
  spawns = g.spawns;
}

-- what it generates code of: an accepted application, by its plan
pub record IsPlanned (g : Generator) : Type 0 where
  pub accepted : IsAccepted (app_of g.plan.now.app.now)
  pub planned : IsPlan g.plan.now
  -- and by the rows of its messages that may be armed
  pub rows : g.rows.now ≡ g.plan.now.app.now
  -- and by how the sections of its resources mask
  pub guards : g.guards.now ≡ guards_of (app_of g.plan.now.app.now)

-- the blocks of a body with so many arguments, at a preemption threshold, in an application whose resources are guarded
-- so
abbrev pub slots_code : App → List Guard → ℕ → ℕ → Body → ℕ → List Line
slots_code app guards args threshold b entry =
    let with : Context = record {
      app = app;
      guards = guards;
      locals = length app.shared;
      expressions = first_expression_slot args b;
      spawns = first_spawn_slot args b;
    } in
    block_code with threshold (first_lock_slot args b) entry b.block

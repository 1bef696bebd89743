-- The code of a whole body of an application, by what the application determines: its blocks, and how it ends.
use Rattle.std.specs.Prelude.{ℕ, ◌^◌, List, [], ◌∷◌, ◌++◌, length, map, Option, Some, None, if◌then◌else◌}
use Rattle.std.specs.List.{range_with_len}
use Rattle.rt_ids.specs.declared.ids.BodyId.{BodyId}
use Rattle.rt_ids.specs.declared.ids.Section.TheVariants as section
use Rattle.rt_app.specs.Bodies.{Member, member_at}
use Rattle.rt_app.specs.Frame.{first_expression_slot, first_lock_slot, first_spawn_slot}
use Rattle.rt_app.specs.Statements.{is_init}
use Rattle.rt_app.specs.Tree.{App}
use Rattle.rt_gen_queue.specs.Line.{Line}
use Rattle.rt_gen_queue.specs.Guards.{guard_of}
use Rattle.rt_gen_queue.specs.declared.guard.Guard.{Guard}
use Rattle.rt_gen_body.specs.Form.{end_line}
use Rattle.rt_gen_body.specs.ValueCode.{Context}
use Rattle.rt_gen_body.specs.BlockCode.{block_code}

-- how the sections of each shared resource mask
abbrev pub guards_of : App → List Guard
guards_of app = map (λ r. guard_of app (section.Res r)) (range_with_len 0 (length app.shared))

-- what the code of a body of an application is generated with
abbrev pub context_of : App → Member → Context
context_of app m = record {
  app = app;
  guards = guards_of app;
  locals = length app.shared;
  expressions = first_expression_slot m.args m.body;
  spawns = first_spawn_slot m.args m.body;
}

-- the preemption threshold of a body: `init` holds off all
abbrev pub threshold_of : App → Member → ℕ
threshold_of app m = if is_init m.id then 2 ^ app.bits else m.priority

-- a body that is not declared has no blocks, and its end alone
abbrev pub body_blocks : App → Option Member → ℕ → List Line
body_blocks app None entry = []
body_blocks app (Some m) entry =
    block_code (context_of app m) (threshold_of app m) (first_lock_slot m.args m.body) entry m.body.block

-- the code of a body: its blocks, and then the line that ends it
abbrev pub code_of : App → BodyId → Option Member → ℕ → List Line
code_of app id member entry = body_blocks app member entry ++ end_line app id entry ∷ []

-- the code of the body that the application declares there
abbrev pub body_code : App → BodyId → ℕ → List Line
body_code app id entry = code_of app id (member_at app id) entry

-- Forms of applications that an analysis is made for: those whose interrupts come from outside alone, so that an
-- interrupt becomes pending by its arrival and by nothing else. They are this project's own.
use Rattle.std.specs.Prelude.{Bool, true, false, not, nat_le, ◌&&◌, Option, Some, None}
use Rattle.std.specs.List.{list_any, list_all}
use Rattle.rt_app.specs.declared.costs.TheConstants.{BRIEF_INIT_COST}
use Rattle.rt_app.specs.Tree.{Statement, Bind, Assign, Branch, Repeat, Locked, Emit, Pend, Spawns, Block, Empty, Then}
use Rattle.rt_app.specs.Tree.{Body, App}
use Rattle.rt_app.specs.Bodies.{members}
use Rattle.rt_app.specs.Level.{is_software}
use Rattle.rt_app.specs.Handlers.{has_no_monotonic}
use Rattle.rt_app.specs.BodyCost.{cost_of, cost_measure}

-- there is no software task: each task binds an interrupt
abbrev pub has_no_software : App → Bool
has_no_software app = not (list_any is_software app.tasks)

-- whether a statement has no `pend`, nor have its inner blocks
abbrev mutual
  pub statement_holds_no_pend : Statement → Bool
  statement_holds_no_pend (Bind x v) = true
  statement_holds_no_pend (Assign x e at) = true
  statement_holds_no_pend (Branch e first second) = holds_no_pend first && holds_no_pend second
  statement_holds_no_pend (Repeat x first last turn) = holds_no_pend turn
  statement_holds_no_pend (Locked r inner at) = holds_no_pend inner
  statement_holds_no_pend (Emit e) = true
  statement_holds_no_pend (Pend i) = false
  statement_holds_no_pend (Spawns s) = true

  -- whether a block has no `pend`, nor have its inner blocks
  pub holds_no_pend : Block → Bool
  holds_no_pend Empty = true
  holds_no_pend (Then s rest) = statement_holds_no_pend s && holds_no_pend rest

-- whether a body has no `pend`, or is not declared
abbrev pub body_holds_no_pend : Option Body → Bool
body_holds_no_pend None = true
body_holds_no_pend (Some b) = holds_no_pend b.block

-- hardware tasks alone, no monotonic, and no body that pends an interrupt: the form that `times` is for
abbrev pub has_response_times : App → Bool
has_response_times app =
    (has_no_software app && has_no_monotonic app) && list_all (λ m. holds_no_pend m.body.block) (members app)

-- `init` takes few core steps: `BRIEF_INIT_COST` at most
abbrev pub is_brief : App → Bool
is_brief app = nat_le (cost_of (cost_measure app) app.init) BRIEF_INIT_COST

-- hardware tasks alone, no monotonic, and an `init` that pends no interrupt and takes few core steps: the form that
-- `deepest` is for
abbrev pub has_deepest_script : App → Bool
has_deepest_script app =
    (has_no_software app && has_no_monotonic app) && (body_holds_no_pend app.init && is_brief app)

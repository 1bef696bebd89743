-- What comes on top of the things to do, and what a spawn has to do. The definitions have the actions of a spawn as a
-- function of what comes after them (`rt_app`; the RTIC 1 book, software tasks and the monotonic).
use Rattle.std.specs.Prelude.{◌≡◌, ℕ, List, Option}
use Rattle.rt_actions.specs.Content.{Values}
use Rattle.rt_app.specs.Tree.{Spawn, App}
use Rattle.rt_app.specs.Sending.{spawn_actions}
use Rattle.rt_app.specs.Meaning.{Later, value_in}
use Rattle.rt_baker_work.specs.Todo.{give_answer, behind}
use Rattle.rt_baker_work.specs.Work.{Work}

-- a spawn, whose answer a variable gets where there is one
abbrev pub make_spawn : App → Option ℕ → Spawn → Later → Later
make_spawn app variable s later vars vs = spawn_actions app (value_in vars vs) s
    (λ granted. give_answer variable granted
    later vars) vs

-- Things to do came on top, which are done first, whatever is left after them.
pub record Pushes (app : App) (first : Later → Later) (old new : Work) : Type 0 where
  pub vars : new.vars ≡ old.vars
  pub same : (later : Later) (vars : List ℕ) (vs : Values)
      → first (behind app old.todos later) vars vs ≡ behind app new.todos later vars vs

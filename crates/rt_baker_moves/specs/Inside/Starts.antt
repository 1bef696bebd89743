-- The jobs of Baker's machine (Stack-Based Scheduling of Realtime Processes, 1991) that begin with something to do, in
-- what an auditor keeps. In the definitions the return of a handler is a part of what it does; here it comes after all
-- that there is to do.
use Rattle.std.specs.Prelude.{◌≡◌, ℕ, [], false, slice_set}
use Rattle.rt_actions.specs.Content.{Values}
use Rattle.rt_actions.specs.Doing.{Doing}
use Rattle.rt_app.specs.Tree.{App}
use Rattle.rt_app.specs.Meaning.{Later}
use Rattle.rt_laws.specs.State as laws
use Rattle.rt_baker_work.specs.Store.{Store, contents}
use Rattle.rt_baker_work.specs.Work.{IsSettled}
use Rattle.rt_baker_moves.specs.Job.{AuditorJob, finish, rest_of, with_rest}
use Rattle.rt_baker_moves.specs.State.{AuditorState}
use Rattle.rt_baker_moves.specs.Inside.Acts.{held_with_job}
use Rattle.rt_baker_moves.specs.Inside.Waiting.{without}

module _ (app : App) where
  -- A job began with this to do, and went on as far as its first action.
  pub record HasBegunWith (role : laws.Role) (priority cost : ℕ) (first : Later → Later) (was : Store)
      (j : AuditorJob) (is : Store) : Type 0 where
    pub job : (rest : Doing Values) → with_rest app j rest ≡ laws.new_job role priority cost rest
    pub rest : rest_of app j (contents is) ≡ first (finish role) [] (contents was)
    pub settled : IsSettled j.work.todos

  -- it is the running job of a state from then on
  pub record Launches (role : laws.Role) (priority cost : ℕ) (first : Later → Later) (old new : AuditorState) : Type 0
    where
      pub after : AuditorJob
      pub store : Store
      pub begins : HasBegunWith role priority cost first old.store after store
      pub is : new ≡ held_with_job old after store

-- an interrupt is pending no longer
abbrev pub held_after_take : ℕ → AuditorState → AuditorState
held_after_take irq s = record s { pending = slice_set s.pending irq false; waiting = without irq s.waiting }

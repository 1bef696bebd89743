-- The dispatchers of an image stand: their code does, beside the bodies of the tasks of their level, which stand when
-- they are called.
use Rattle.std.proofs.Common.{◌≡◌, ◌==◌, ℕ, true, List, length, slice_get, Some, Contains, sym, ap, subst, ◌∙◌}
use Rattle.std.proofs.Common.{if◌then◌else◌}
use Rattle.rt_lemmas.proofs.Bools.{and_left}
use Rattle.rt_ids.specs.Lists.{is_some_and}
use Rattle.rt_actions.specs.Storage.{AtPriority}
use Rattle.rt_app.specs.declared.costs.TheConstants.{DISPATCHER_WORDS}
use Rattle.rt_app.specs.Tree.{Task, App}
use Rattle.rt_app.specs.Accepted.{IsAccepted}
use Rattle.rt_app.specs.BodyCost.{dispatcher_cost}
use Rattle.rt_app.specs.Doings.{dispatcher_doing}
use Rattle.rt_app.specs.Holding.{storage}
use Rattle.rt_app.specs.Layout.{memory}
use Rattle.rt_app.specs.Level.{is_software, is_of_level, levels}
use Rattle.rt_code.specs.Standing.{StandsFrom}
use Rattle.rt_code.specs.declared.image.BodyRow.{BodyRow}
use Rattle.rt_gen_body.specs.Bodies.{DeclaredStands}
use Rattle.rt_gen_queue.specs.Line.{Line, HasCodeAt}
use Rattle.rt_gen_queue.specs.Called.{CalledBodyStands, row_for, rows_for}
use Rattle.rt_gen_disp.specs.Code.{dispatcher_code}
use Rattle.rt_gen_disp.proofs.Dispatching.{dispatchers_stand}
use Rattle.rt_build.specs.Entries.{Entries}
use Rattle.rt_build.specs.Image.{callable_rows}
use Rattle.rt_build.proofs.LevelRows.{entries_for, rows_by_entries}

module _ (app : App) (accepted : IsAccepted app) (at : Entries) (code : List Line)
    (stand : (n : ℕ) (t : Task) → slice_get app.tasks n ≡ Some t → DeclaredStands app n code (at.task n))
    (p : ℕ) (is : Contains (levels app) p) where
  abbrev entry : ℕ → ℕ
  entry = entries_for app (is_of_level p) (length code) at.task

  -- the bodies of the level's tasks stand by these entries
  called : (n : ℕ) (t : Task) → slice_get app.tasks n ≡ Some t → is_of_level p t ≡ true
      → CalledBodyStands app n code (row_for entry n t)
  called n t there level =
      let own : at.task n ≡ entry n =
      sym (ap (λ b. if b then at.task n else length code) (ap (is_some_and (is_of_level p)) there ∙ level)) in
      subst (λ e. CalledBodyStands app n code (row_for (λ k. e) n t)) own
      ((stand n t there).called t there (and_left (is_software t) (t.priority == p) level))

  pub dispatcher_stands : (bodies : List BodyRow) → bodies ≡ rows_for at.task 0 app.tasks
      → HasCodeAt code (at.dispatcher p) (dispatcher_code app p (at.dispatcher p))
      → (thread : ℕ)
      → StandsFrom (storage app) code (callable_rows app (is_of_level p) (length code) bodies) thread (AtPriority p)
      (length (memory app)) DISPATCHER_WORDS (at.dispatcher p) (dispatcher_cost app p) (dispatcher_doing app p)
  dispatcher_stands bodies are has thread =
      dispatchers_stand app accepted p is
      (record {
        code = code;
        address = at.dispatcher p;
        has = has;
        entry = entry;
        bodies = callable_rows app (is_of_level p) (length code) bodies;
        rows = ap (callable_rows app (is_of_level p) (length code)) are
            ∙ rows_by_entries app (is_of_level p) (length code) at 0 app.tasks;
        called = called;
      }) thread

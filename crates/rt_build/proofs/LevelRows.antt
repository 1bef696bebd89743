-- The rows of bodies that a dispatcher calls by are rows by other entries: those of tasks that it does not call lead
-- after all code. So code that stands whatever the entries of other tasks are stands beside them.
use Rattle.std.proofs.Common.{◌≡◌, ℕ, ◌+◌, Bool, true, false, if◌then◌else◌, List, [], ◌∷◌, ◌++◌, slice_get, refl, ap}
use Rattle.std.proofs.Common.{◌∙◌}
use Rattle.rt_ids.specs.Lists.{is_some_and}
use Rattle.rt_app.specs.Level.{is_software}
use Rattle.rt_app.specs.Tree.{Task, App}
use Rattle.rt_code.specs.declared.image.BodyRow.{BodyRow}
use Rattle.rt_gen_queue.specs.Called.{row_for, rows_for}
use Rattle.rt_build.specs.Entries.{Entries}
use Rattle.rt_build.specs.Image.{callable_rows}

-- the entries of tasks that pass, and for any other this address
abbrev pub entries_for : App → (Task → Bool) → ℕ → (ℕ → ℕ) → ℕ → ℕ
entries_for app test behind at n = if is_some_and test (slice_get app.tasks n) then at n else behind

-- a row by its own entry, or one after all code
chosen : (n : ℕ) (t : Task) (entry behind : ℕ) (b : Bool)
    → (if b then row_for (λ k. entry) n t else row_for (λ k. behind) n t)
    ≡ row_for (λ k. if b then entry else behind) n t
chosen n t entry behind true = refl
chosen n t entry behind false = refl

pub rows_by_entries : (app : App) (test : Task → Bool) (behind : ℕ) (at : Entries) (n : ℕ) (ts : List Task)
    → callable_rows app test behind (rows_for at.task n ts) ≡ rows_for (entries_for app test behind at.task) n ts
rows_by_entries app test behind at n [] = refl
rows_by_entries app test behind at n (t ∷ ts) =
    by (is_software t) (rows_by_entries app test behind at (n + 1) ts)
  where
    by : (b : Bool)
        → callable_rows app test behind (rows_for at.task (n + 1) ts)
        ≡ rows_for (entries_for app test behind at.task) (n + 1) ts
        → callable_rows app test behind
        ((if b then row_for at.task n t ∷ [] else []) ++ rows_for at.task (n + 1) ts)
        ≡ (if b then row_for (entries_for app test behind at.task) n t ∷ [] else [])
        ++ rows_for (entries_for app test behind at.task) (n + 1) ts
    by false rest = rest
    by true rest =
        ap (λ (r : BodyRow). r ∷ callable_rows app test behind (rows_for at.task (n + 1) ts))
        (chosen n t (at.task n) behind (is_some_and test (slice_get app.tasks n)))
        ∙ ap (λ (rs : List BodyRow). row_for (entries_for app test behind at.task) n t ∷ rs) rest

-- The rows of bodies, task by task.
use Rattle.std.proofs.Common.{◌≡◌, ℕ, zero, suc, ◌+◌, true, false, List, [], ◌∷◌, ◌++◌, take, append-nil, append_assoc}
use Rattle.std.proofs.Common.{Some, slice_get, sym, ap, ◌∙◌, arith, if◌then◌else◌}
use Rattle.std.proofs.lemmas.Option.{same_Some, none-some}
use Rattle.rt_app.specs.Tree.{Task, App}
use Rattle.rt_app.specs.Level.{is_software}
use Rattle.rt_code.specs.declared.image.BodyRow.{BodyRow}
use Rattle.rt_gen_queue.specs.Called.{row_for, rows_for}
use Rattle.rt_build.specs.Entries.{Entries}

module _ (app : App) (at : Entries) where
  -- that of a task, if it is a software task
  abbrev own : ℕ → Task → List BodyRow
  own n t = if is_software t then row_for at.task n t ∷ [] else []

  rows_more : (k n : ℕ) (ts : List Task) (t : Task) → slice_get ts n ≡ Some t
      → rows_for at.task k (take (suc n) ts) ≡ rows_for at.task k (take n ts) ++ own (k + n) t
  rows_more k n [] t there = absurd (none-some t there)
  rows_more k zero (u ∷ ts) t there =
      let e : k ≡ k + 0 = omega arith in
      append-nil (own k u) ∙ (ap (own k) (same_Some u t there) ∙ ap (λ j. own j t) e)
  rows_more k (suc n) (u ∷ ts) t there =
      let e : k + 1 + n ≡ k + suc n = omega arith in
      ap (λ rows. own k u ++ rows)
      (rows_more (k + 1) n ts t there ∙ ap (λ j. rows_for at.task (k + 1) (take n ts) ++ own j t) e)
      ∙ sym (append_assoc (own k u) (rows_for at.task (k + 1) (take n ts)) (own (k + suc n) t))

  module _ (n : ℕ) (t : Task) (there : slice_get app.tasks n ≡ Some t) where
    next : rows_for at.task 0 (take (n + 1) app.tasks) ≡ rows_for at.task 0 (take n app.tasks) ++ own n t
    next =
        let e : n + 1 ≡ suc n = omega arith in
        let f : 0 + n ≡ n = omega arith in
        ap (λ m. rows_for at.task 0 (take m app.tasks)) e
        ∙ (rows_more 0 n app.tasks t there ∙ ap (λ m. rows_for at.task 0 (take n app.tasks) ++ own m t) f)

    -- one row more, or none
    pub next_row : is_software t ≡ true
        → rows_for at.task 0 (take (n + 1) app.tasks)
        ≡ rows_for at.task 0 (take n app.tasks) ++ row_for at.task n t ∷ []
    next_row software =
        next ∙ ap (λ b. rows_for at.task 0 (take n app.tasks) ++ (if b then row_for at.task n t ∷ [] else [])) software

    pub no_row : is_software t ≡ false
        → rows_for at.task 0 (take (n + 1) app.tasks) ≡ rows_for at.task 0 (take n app.tasks)
    no_row hardware =
        next ∙ (ap (λ b. rows_for at.task 0 (take n app.tasks) ++ (if b then row_for at.task n t ∷ [] else [])) hardware
        ∙ append-nil (rows_for at.task 0 (take n app.tasks)))

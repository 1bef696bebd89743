-- How many lines a dispatcher has.
use Rattle.rt_gen_queue.proofs.Vocabulary.{AllByRecursion, App, AreFrom, BodyRow, KeepsTaskLimits, Line, List, Some}
use Rattle.rt_gen_queue.proofs.Vocabulary.{Task, [], all_at, all_from, and_left, arith, cond, false, first_from, inl}
use Rattle.rt_gen_queue.proofs.Vocabulary.{inr, is_of_level, is_software, length, length-append}
use Rattle.rt_gen_queue.proofs.Vocabulary.{length-map-range_with_len, queue_at, rest_from, row_for, rows_for, slice_get}
use Rattle.rt_gen_queue.proofs.Vocabulary.{subst, sum_by-cons, sym, true, zero-add, ℕ, ◌*◌, ◌++◌, ◌+◌, ◌==◌, ◌∷◌, ◌≡◌}
use Rattle.rt_gen_queue.proofs.Vocabulary.{◌≤◌}
use Rattle.std.{proofs.lemmas.Bool.cases_Bool, specs.Prelude.count_by}
use Rattle.rt_app.specs.BodyCost.{dispatcher_size}
use Rattle.rt_gen_queue.specs.declared.queue.ReadyQueue.{ReadyQueue}
use Rattle.rt_gen_disp.specs.Code.{callee_of, choice_code, choice_lines, choices_code, dispatcher_code, exit_of}
use Rattle.rt_gen_disp.specs.Code.{front_lines, next_for}
use Rattle.rt_gen_disp.specs.declared.{called.Called.Called, lines.Exit.Exit}

-- the lines for one task
pub choice_long : (q : ReadyQueue) (c : Called) (next at : ℕ) → length (choice_lines q c next at) ≡ 17 + c.args
choice_long q c next at = simp (length-append, length-map-range_with_len) (omega arith)

-- a task of a level by its number, with the row of its body
pub record IsTask (app : App) (level : ℕ) (entry : ℕ → ℕ) (n row : ℕ) (t : Task) : Type 0 where
  pub at : slice_get app.tasks n ≡ Some t
  pub of : is_of_level level t ≡ true
  pub there : slice_get (rows_for entry 0 app.tasks) row ≡ Some (row_for entry n t)

-- What holds from an address and a number of a task on, of the lines for so many tasks of a level: it holds of none, it
-- is the same before a task of another level, and it goes on with one task's more.
pub record Grows (app : App) (level : ℕ) (exit : Exit) (entry : ℕ → ℕ) (P : (at n k : ℕ) → List Line → Type 0)
    : Type 0 where
  pub none : (at n : ℕ) → AreFrom app.tasks n [] → P at n 0 []
  pub other : (at n k : ℕ) (t : Task) (lines : List Line) → slice_get app.tasks n ≡ Some t
      → is_of_level level t ≡ false → P at (n + 1) k lines → P at n k lines
  pub next : (at n row k : ℕ) (t : Task) (more : List Line) → IsTask app level entry n row t
      → P (at + (17 + t.args)) (n + 1) k more → P at n (1 + k) (choice_code app level exit at n row t ++ more)

pub choices_grow : {app : App} {level : ℕ} {exit : Exit} {entry : ℕ → ℕ} {P : (at n k : ℕ) → List Line → Type 0}
    → Grows app level exit entry P → (ts : List Task) (at n row : ℕ) → AreFrom app.tasks n ts
    → AreFrom (rows_for entry 0 app.tasks) row (rows_for entry n ts)
    → P at n (count_by (is_of_level level) ts) (choices_code app level exit at n row ts)
choices_grow grows [] at n row from rows = grows.none at n from
choices_grow {app = app} {level = level} {exit = exit} {entry = entry} {P = P} grows (t ∷ ts) at n row from rows =
    let all : List BodyRow = rows_for entry 0 app.tasks in
    let here : slice_get app.tasks n ≡ Some t = first_from app.tasks n t ts from in
    let behind = rest_from app.tasks n t ts from in
    let more : AreFrom all row (row_for entry n t ∷ rows_for entry (n + 1) ts) → AreFrom all (row + 1)
    (rows_for entry (n + 1) ts) =
    rest_from all row (row_for entry n t) (rows_for entry (n + 1) ts) in
    subst (λ k. P at n k (choices_code app level exit at n row (t ∷ ts)))
    (sym (sum_by-cons (λ t. cond (is_of_level level t) 1 0) t ts))
    (elim (cases_Bool (is_of_level level t)) [
      | inl of ↦
          (let mine = rw (and_left (is_software t) (t.priority == level) of) at rows in
          rw of
          (grows.next at n row _ t _ (record { at = here; of = of; there = first_from all row _ _ mine })
          (choices_grow grows ts (at + (17 + t.args)) (n + 1) (row + 1) behind (more mine))))
      | inr other ↦
          elim (cases_Bool (is_software t)) [
            | inl is ↦
                (let mine = rw is at rows in
                rw (other, is, zero-add)
                (grows.other at n _ t _ here other (choices_grow grows ts at (n + 1) (row + 1) behind (more mine))))
            | inr no_software ↦
                (let others = rw no_software at rows in
                rw (other, no_software, zero-add)
                (grows.other at n _ t _ here other (choices_grow grows ts at (n + 1) row behind others)))
          ]
    ])

pub dispatcher_short : (app : App) (p at : ℕ) → AllByRecursion KeepsTaskLimits app.tasks
    → length (dispatcher_code app p at) ≤ dispatcher_size app p
dispatcher_short app p at all =
    let exit : Exit = exit_of app p at in
    let grows : Grows app p exit (λ n. 0) (λ at n k lines. length lines ≤ 21 * k) = record {
      none = λ at n from. omega arith;
      other = λ at n k t lines here other short. short;
      next = λ at n row k t more is short.
          let limits : KeepsTaskLimits t = all_at KeepsTaskLimits app.tasks n t all is.at in
          let long = choice_long (queue_at app p) (callee_of app n row t) (next_for exit n (at + (17 + t.args))) at in
          omega (arith, limits.args, long, length-append (choice_code app p exit at n row t) more);
    } in
    let choices = choices_grow grows app.tasks (at + 18) 0 0 (all_from app.tasks) (all_from _) in
    let front = length-append (front_lines (queue_at app p) at) (choices_code app p exit (at + 18) 0 0 app.tasks) in
    omega arith

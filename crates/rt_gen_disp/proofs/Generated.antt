-- How the code of a dispatcher comes about.
use Rattle.rt_gen_queue.proofs.Vocabulary.{App, Bool, IsAccepted, IsPlan, Line, List, Made, None, Option, Plan, Some}
use Rattle.rt_gen_queue.proofs.Vocabulary.{Task, [], and_left, ap, app_of, append-nil, append_assoc, arith, drop}
use Rattle.rt_gen_queue.proofs.Vocabulary.{drop_as_cons, false, get_or, inl, inr, is_of_level}
use Rattle.rt_gen_queue.proofs.Vocabulary.{is_software, length, length-append, length-map, map, mapped_at, next_address}
use Rattle.rt_gen_queue.proofs.Vocabulary.{plain, queue_at, refl, slice_get, slice_get_read}
use Rattle.rt_gen_queue.proofs.Vocabulary.{subst, sym, task_of, true, ℕ, ◌++◌, ◌+◌, ◌<◌, ◌==◌, ◌∙◌, ◌∷◌, ◌≡◌}
use Rattle.rt_gen_queue.proofs.Vocabulary.{◌≤◌}
use Rattle.std.proofs.lemmas.{Bool.cases_Bool, List.FromFn.map-range_with_len_more, Option.slice_get_past}
use Rattle.std.specs.Int.{from_bool}
use Rattle.rt_app.specs.declared.app.App as code
use Rattle.rt_app.specs.declared.app.Task as row
use Rattle.rt_code.specs.declared.instr.Instr.TheVariants as instr
use Rattle.rt_gen_queue.{proofs.Planned.target_made, proofs.Planned.target_read, specs.declared.target.Target.Target}
use Rattle.rt_gen_disp.proofs.Sizes.{choice_long}
use Rattle.rt_gen_disp.specs.{Inside.Generating.task_code, declared.called.Called.Called, declared.lines.Exit.Exit}
use Rattle.rt_gen_disp.specs.Code.{argument_lines, callee_of, choice_code, choices_code, next_for}

-- one argument more
pub arguments_more : (inputs k : ℕ)
    → argument_lines inputs (k + 1) ≡ argument_lines inputs k ++ plain (instr.LoadAt k (inputs + k) 7) ∷ []
arguments_more inputs k =
    map-range_with_len_more (λ (j : ℕ). plain (instr.LoadAt j (inputs + j) 7)) 0 k k (omega arith)

-- the tasks from one on, where there is one
pub tasks_left : (items : List row.Task) (n : ℕ) (t : row.Task) → n < length items → t ≡ get_or items n t
    → map task_of (drop n items) ≡ task_of t ∷ map task_of (drop (n + 1) items)
tasks_left items n t within at = ap (map task_of) (drop_as_cons items n t within at)

-- where the lines of a level's tasks are to stand
pub record Site : Type 0 where
  pub app : App
  pub level : ℕ
  pub exit : Exit

-- lines, and those of the tasks from a number on, with the rows of software tasks from another on
abbrev pub with_rest : Site → Made → ℕ → ℕ → List Task → Made
with_rest s made n r ts =
    record made { lines = made.lines ++ choices_code s.app s.level s.exit (next_address made) n r ts }

-- lines, and those of a task by its number, with its row, where there is one
abbrev with_task : Site → Made → ℕ → ℕ → Option Task → Made
with_task s made n r task =
    record made { lines = made.lines ++ task_code s.app s.level s.exit (next_address made) n r task }

-- what is left after the lines of a task
rest_next : (s : Site) (made : Made) (n r : ℕ) (t : Task) (ts : List Task) → with_rest s made n r (t ∷ ts)
    ≡ with_rest s (with_task s made n r (Some t)) (n + 1) (r + from_bool (is_software t)) ts
rest_next s made n r t ts =
    let lines : List Line = made.lines in
    let with : List Line → Made = λ ls. record made { lines = ls } in
    let at : ℕ = next_address made in
    let own : List Line = choice_code s.app s.level s.exit at n r t in
    let more : ℕ → ℕ → List Line = λ a k. choices_code s.app s.level s.exit a (n + 1) k ts in
    elim (cases_Bool (is_of_level s.level t)) [
      | inl of ↦
          (let long =
          choice_long (queue_at s.app s.level) (callee_of s.app n r t) (next_for s.exit n (at + (17 + t.args))) at in
          let behind : at + (17 + t.args) ≡ made.entry + length (lines ++ own) =
          omega (arith, length-append lines own, long) in
          rw (of, and_left (is_software t) (t.priority == s.level) of)
          (ap (λ a. with (lines ++ (own ++ more a (r + 1)))) behind
          ∙ ap with (sym (append_assoc lines own (more (made.entry + length (lines ++ own)) (r + 1))))))
      | inr other ↦
          elim (cases_Bool (is_software t)) [
            | inl is ↦ rw (other, is, append-nil) refl
            | inr fails ↦
                (let same : r ≡ r + 0 = omega arith in
                rw (other, fails, append-nil) (ap (λ k. with (lines ++ more at k)) same))
          ]
    ]

-- a task of the code, as it stands among the tasks of the definitions
pub task_there : (app : code.App) (items : List row.Task) (n : ℕ) (t : row.Task) → items ≡ app.tasks.items
    → n < length items → t ≡ get_or items n t → slice_get (map task_of app.tasks.items) n ≡ Some (task_of t)
task_there app items n t is within at =
    mapped_at task_of app.tasks.items n t (subst (λ (xs : List row.Task). slice_get xs n ≡ Some t) is
    (slice_get_read items (length items) n t refl within at))

pub no_task : (app : code.App) (items : List row.Task) (n : ℕ) → items ≡ app.tasks.items → length items ≤ n
    → slice_get (map task_of app.tasks.items) n ≡ None
no_task app items n is beyond =
    slice_get_past (map task_of app.tasks.items) n (subst (λ k. k ≤ n)
    (ap (λ (xs : List row.Task). length xs) is ∙ sym (length-map app.tasks.items task_of)) beyond)

-- what is left after the lines of a task of the code
pub choices_next : (s : Site) (items : List row.Task) (made : Made) (r : ℕ) {n : ℕ} {t : row.Task}
    → n < length items → t ≡ get_or items n t → with_rest s made n r (map task_of (drop n items))
    ≡ with_rest s (with_task s made n r (slice_get (map task_of items) n)) (n + 1)
    (r + from_bool (is_software (task_of t))) (map task_of (drop (n + 1) items))
choices_next s items made r {n = n} {t = t} within at =
    let there : slice_get (map task_of items) n ≡ Some (task_of t) =
    mapped_at task_of items n t (slice_get_read items (length items) n t refl within at) in
    ap (with_rest s made n r) (tasks_left items n t within at)
    ∙ rest_next s made n r (task_of t) (map task_of (drop (n + 1) items)) ∙ rw there refl

pub at_most_one : (b : Bool) → from_bool b ≤ 1
at_most_one true = omega arith
at_most_one false = omega arith

-- what a spawn is made of, as the dispatcher has it
abbrev pub with_row : ℕ → ℕ → Target → Called
with_row r args c = record { task = c.task; row = r; args = args; free = c.free; inputs = c.inputs; guard = c.guard }

-- what is read of the plan's tables makes what the dispatcher has of a task
pub called_made : {plan : Plan} (n r : ℕ) {t : Task} (accepted : IsAccepted (app_of plan.app.now))
    (planned : IsPlan plan) (there : slice_get (app_of plan.app.now).tasks n ≡ Some t) (software : is_software t ≡ true)
    → with_row r t.args (target_read n accepted planned there software) ≡ callee_of (app_of plan.app.now) n r t
called_made n r {t = t} accepted planned there software =
    ap (with_row r t.args) (target_made n accepted planned there software)

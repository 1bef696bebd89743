-- How the choices of the timer handler come about.
use Rattle.rt_gen_queue.proofs.Vocabulary.{App, Appends, Bool, Line, List, Made, Some, Task, [], ap, app_of, append-nil}
use Rattle.rt_gen_queue.proofs.Vocabulary.{append_assoc, arith, drop, drop_all, drop_as_cons, false}
use Rattle.rt_gen_queue.proofs.Vocabulary.{get_or_from_slice_get, if◌then◌else◌, is_armed, is_software, length}
use Rattle.rt_gen_queue.proofs.Vocabulary.{length-append, next_address, slice_get, slice_get_within, subst, sym, true}
use Rattle.rt_gen_queue.proofs.Vocabulary.{ℕ, ◌&&◌, ◌++◌, ◌+◌, ◌∙◌, ◌∷◌, ◌≡◌, ◌≤◌}
use Rattle.rt_app.specs.declared.app.App as code
use Rattle.rt_gen_timer.specs.{Inside.Choices.task_code, TimerLines.choice_lines}
use Rattle.rt_gen_timer.specs.TimerCode.{armed_task, choices_code, queue_of}

-- Whether messages of a task, by its number, may be armed. What is read of the rows of an application is so of it.
abbrev pub has_choice : App → ℕ → Task → Bool
has_choice app n t = is_software t && is_armed app n

pub same_choice : {rows app : code.App} (n : ℕ) (t : Task) {b c : Bool} → b ≡ has_choice (app_of rows) n t → rows ≡ app
    → b ≡ c → has_choice (app_of app) n t ≡ c
same_choice n t is same answer = ap (λ app. has_choice (app_of app) n t) (sym same) ∙ sym is ∙ answer

-- where they may not be, nothing is added
pub not_fired : (app : App) (threshold at n : ℕ) (t : Task) (made : Made) → has_choice app n t ≡ false
    → Appends made made (task_code app threshold at n t)
not_fired app threshold at n t made other =
    let own : List Line = choice_lines (queue_of app) 0 threshold (armed_task app n) at in
    ap (λ (ls : List Line). record made { lines = ls })
    (sym (append-nil made.lines) ∙ ap (λ b. made.lines ++ (if b then own else [])) (sym other))

-- where the choices of the timer handler begin, after the lines made before
pub record Start : Type 0 where
  pub app : App
  pub threshold : ℕ
  pub old : Made

abbrev pub begun : code.App → ℕ → Made → Start
begun app threshold old = record { app = app_of app; threshold = threshold; old = old }

-- lines, and those of the tasks from a number on
abbrev with_rest : Start → Made → ℕ → List Task → Made
with_rest s made n ts = record made { lines = made.lines ++ choices_code s.app s.threshold (next_address made) n ts }

-- All lines are those made so far and those of the tasks from a number on.
abbrev pub AreLeft : Start → ℕ → Made → Type 0
AreLeft s n made = with_rest s s.old 0 s.app.tasks ≡ with_rest s made n (drop n s.app.tasks)

-- after the last task there are none
pub choices_all : (s : Start) (n : ℕ) {made : Made} → length s.app.tasks ≤ n → AreLeft s n made
    → Appends s.old made (choices_code s.app s.threshold (next_address s.old) 0 s.app.tasks)
choices_all s n {made = made} beyond left =
    sym (left ∙ ap (with_rest s made n) (drop_all n s.app.tasks beyond)
    ∙ ap (λ (ls : List Line). record made { lines = ls }) (append-nil made.lines))

-- a task more
pub choices_next : (s : Start) (n : ℕ) {t : Task} (mid : Made) {new : Made} → slice_get s.app.tasks n ≡ Some t
    → AreLeft s n mid → Appends mid new (task_code s.app s.threshold (next_address mid) n t) → AreLeft s (n + 1) new
choices_next s n {t = t} mid there left pushed =
    let others : List Task = drop (n + 1) s.app.tasks in
    let parts : drop n s.app.tasks ≡ t ∷ others =
    drop_as_cons s.app.tasks n t (slice_get_within s.app.tasks n t there)
    (sym (get_or_from_slice_get s.app.tasks n t t there)) in
    left ∙ ap (with_rest s mid n) parts
    ∙ subst (λ (made : Made). with_rest s mid n (t ∷ others) ≡ with_rest s made (n + 1) others) (sym pushed)
    (by_choice (has_choice s.app n t) others)
  where
    with : List Line → Made
    with ls = record mid { lines = ls }

    own : List Line
    own = choice_lines (queue_of s.app) 0 s.threshold (armed_task s.app n) (next_address mid)

    others_at : ℕ → List Task → List Line
    others_at at others = choices_code s.app s.threshold at (n + 1) others

    by_choice : (b : Bool) (others : List Task)
        → with (mid.lines ++ (if b then own ++ others_at (next_address mid + 26) others
        else others_at (next_address mid) others))
        ≡ with_rest s (with (mid.lines ++ (if b then own else []))) (n + 1) others
    by_choice true others =
        let place : next_address mid + 26 ≡ mid.entry + length (mid.lines ++ own) =
        omega (arith, length-append mid.lines own) in
        ap (λ at. with (mid.lines ++ (own ++ others_at at others))) place
        ∙ ap with (sym (append_assoc mid.lines own (others_at (mid.entry + length (mid.lines ++ own)) others)))
    by_choice false others =
        ap (λ (ls : List Line). with (ls ++ others_at (mid.entry + length ls) others)) (sym (append-nil mid.lines))

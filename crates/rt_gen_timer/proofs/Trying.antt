-- The choices of the timer handler: one after the other is tried, until that of the task whose message is due. Each
-- that is tried in vain takes 3 steps.
use Rattle.rt_gen_queue.proofs.Vocabulary.{Bool, Entry, HasCodeAt, IsTimedPlace, Line, List, Some, Task, [], and_both}
use Rattle.rt_gen_queue.proofs.Vocabulary.{and_right, ap, append_assoc, arith, armed_count, armed_place, cases_eq}
use Rattle.rt_gen_queue.proofs.Vocabulary.{false, false≢true, if◌then◌else◌, inl, inr, is_armed, is_software}
use Rattle.rt_gen_queue.proofs.Vocabulary.{is_some_and, le-ltb, length, number_of, option_map, or_zero, refl, slice_get}
use Rattle.rt_gen_queue.proofs.Vocabulary.{subst, suc, sym, take, true, ℕ, ◌&&◌, ◌*◌, ◌++◌, ◌+◌, ◌<◌, ◌∙◌, ◌∷◌, ◌≡◌}
use Rattle.rt_gen_queue.proofs.Vocabulary.{◌≤◌}
use Rattle.rt_app.proofs.ArmedPlaces.{rows, rows_before}
use Rattle.rt_gen_queue.proofs.Layer.{Here, Now, S, calculates, jumps_off, sets}
use Rattle.rt_gen_queue.proofs.Placing.{code_behind, code_front}
use Rattle.rt_gen_timer.proofs.{Acting.Runs, Acting.run_stands, Acting.sooner, Judging.Handler, Judging.frame}
use Rattle.rt_gen_timer.proofs.{Judging.setting, Window.Words, Window.words}
use Rattle.rt_gen_timer.specs.TimerCode.{armed_task, choices_code, queue_of}
use Rattle.rt_gen_timer.specs.TimerLines.{choice_lines}

module _ (k : Handler) where
  -- the choice of a task, from an address on
  abbrev pub choice_at : ℕ → ℕ → List Line
  choice_at n to = choice_lines (queue_of k.app) 0 k.threshold (armed_task k.app n) to

  -- The tasks from a number on may be tried, that of the message among them, with its row in a slot.
  pub record MayTry (e : Entry) (n : ℕ) (ts : List Task) (behind : List Line) (h : Here) (w : Words) : Type 0 where
    pub place : IsTimedPlace k.app e
    pub tasks : (j : ℕ) (t : Task) → slice_get ts j ≡ Some t → slice_get k.app.tasks (n + j) ≡ Some t
    pub least : n ≤ e.task
    pub among : e.task < n + length ts
    pub code : HasCodeAt k.code h.at (choices_code k.app k.threshold h.at n ts ++ behind)
    pub runs : Runs (frame k) (h.done + 3 * armed_count k.app n ts) h
    pub row : w.place ≡ armed_place k.app e

  -- the choice of the message's task is found
  abbrev pub Found : Entry → ℕ → List Task → Here → Words → Type 0
  Found e n ts h w =
      (done to other : ℕ) → done ≤ h.done + 3 * armed_count k.app n ts → HasCodeAt k.code to (choice_at e.task to)
      → S (setting k) (Now (frame k) (record h { done = done; at = to }) (words (record w { other = other })))

  abbrev Tries : Entry → ℕ → List Task → List Line → Type 0
  Tries e n ts behind =
      (h : Here) (w : Words) → MayTry e n ts behind h w → Found e n ts h w → S (setting k) (Now (frame k) h (words w))

  module _ {e : Entry} {n : ℕ} {t : Task} {ts : List Task} {behind : List Line} {h : Here} {w : Words}
      (may : MayTry e n (t ∷ ts) behind h w) where
    there : slice_get k.app.tasks n ≡ Some t
    there = let zeroth : n ≡ n + 0 = omega arith in ap (slice_get k.app.tasks) zeroth ∙ may.tasks 0 t refl

    -- the rows of a task before lie before the message's
    rows_past : n < e.task → (armed_task k.app n).first + (armed_task k.app n).rows ≤ w.place
    rows_past less =
        let same : (armed_task k.app n).rows ≡ rows k.app n t =
        ap (λ o. if is_armed k.app n then or_zero (option_map (λ (t : Task). t.capacity) o) else 0) there in
        omega (arith, rows_before k.app n e.task t there less, same, may.row)

    -- the message's own task has a choice
    has_choice : e.task ≡ n → (is_software t && is_armed k.app n) ≡ true
    has_choice same =
        and_both (is_software t) (is_armed k.app n)
        (ap (is_some_and is_software) (sym there)
        ∙ ap (λ m. is_some_and is_software (slice_get k.app.tasks m)) (sym same) ∙ may.place.1)
        (ap (is_armed k.app) (sym same) ∙ may.place.0)

    -- the tasks after it may be tried
    behind_one : {done at other : ℕ} → n < e.task
        → done + 3 * armed_count k.app (n + 1) ts ≤ h.done + 3 * armed_count k.app n (t ∷ ts)
        → HasCodeAt k.code at (choices_code k.app k.threshold at (n + 1) ts ++ behind)
        → MayTry e (n + 1) ts behind (record h { done = done; at = at }) (record w { other = other })
    behind_one less soon code = record {
      place = may.place;
      tasks = λ j u at.
          let moved : n + 1 + j ≡ n + suc j = omega arith in ap (slice_get k.app.tasks) moved ∙ may.tasks (suc j) u at;
      least = omega (arith, less);
      among = omega (arith, may.among);
      code = code;
      runs = sooner may.runs soon;
      row = may.row;
    }

    -- it is tried, by whether it has a choice
    tries_one : Tries e (n + 1) ts behind → Found e n (t ∷ ts) h w → (b : Bool)
        → (is_software t && is_armed k.app n) ≡ b
        → HasCodeAt k.code h.at
        ((if b then choice_at n h.at ++ choices_code k.app k.threshold (h.at + 26) (n + 1) ts
        else choices_code k.app k.threshold h.at (n + 1) ts) ++ behind)
        → S (setting k) (Now (frame k) h (words w))
    tries_one again found false armed code =
        elim (cases_eq e.task n) [
          | inl same ↦ absurd (false≢true (sym armed ∙ has_choice same))
          | inr apart ↦
              again _ _ (behind_one {other = w.other} (omega (arith, apart, may.least)) (omega arith) code)
              (λ done to other soon has. found done to other (omega (arith, soon)) has)
        ]
    tries_one again found true armed code =
        let one : armed_count k.app n (t ∷ ts) ≡ 1 + armed_count k.app (n + 1) ts =
        ap (λ (b : Bool). (if b then 1 else 0) + armed_count k.app (n + 1) ts)
        (and_right (is_software t) (is_armed k.app n) armed) in
        let more : List Line = choices_code k.app k.threshold (h.at + 26) (n + 1) ts in
        let whole : HasCodeAt k.code h.at (choice_at n h.at ++ (more ++ behind)) =
        subst (HasCodeAt k.code h.at) (append_assoc (choice_at n h.at) more behind) code in
        elim (cases_eq e.task n) [
          | inl same ↦
              found h.done h.at w.other (omega arith)
              (subst (λ (m : ℕ). HasCodeAt k.code h.at (choice_at m h.at)) (sym same)
              (code_front k.code h.at (choice_at n h.at) (more ++ behind) whole))
          | inr apart ↦
              (let less : n < e.task = omega (arith, apart, may.least) in
              run_stands h w (take 3 (choice_at n h.at)) may.runs (omega (arith, one)) refl
              (whole.0, (whole.1.0, (whole.1.1.0, tt)))
              (sets
              (calculates 0 (ap number_of (le-ltb w.place _ (rows_past less)))
              (jumps_off refl
              (again _ _
              (behind_one {other = 0} less (omega (arith, one))
              (code_behind k.code h.at (h.at + 26) (choice_at n h.at) (more ++ behind) refl whole))
              (λ done to other soon has. found done to other (omega (arith, soon, one)) has))))))
        ]

  -- so many steps are enough to come to the choice of the message's task
  pub tries_stand : (ts : List Task) (e : Entry) (n : ℕ) (behind : List Line) → Tries e n ts behind
  tries_stand [] e n behind h w may found = absurd (omega (arith, may.least, may.among))
  tries_stand (t ∷ ts) e n behind h w may found =
      tries_one may (tries_stand ts e (n + 1) behind) found (is_software t && is_armed k.app n) refl may.code

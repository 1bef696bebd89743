-- The priorities that have a handler, what their handlers need, and the bytes of the stack.
use Rattle.std.proofs.Common.{◌≡◌, ℕ, ◌+◌, ◌*◌, ◌<◌, ◌==◌, max, Bool, true, false, not, ◌&&◌, ◌||◌, List, [], ◌∷◌, ◌++◌}
use Rattle.std.proofs.Common.{length, get_or, take, map, filter, cond, Some, None, Option, refl, sym, ap, ◌∙◌, arith}
use Rattle.std.proofs.Common.{add-one}
use Rattle.std.specs.List.{list_any}
use Rattle.std.proofs.lemmas.List.{map_more, map-append}
use Rattle.std.proofs.lemmas.List.Folds.{list_any-append}
use Rattle.std.proofs.Math.Bool.{or-false}
use Rattle.rt_lemmas.proofs.Numbers.{max_alone}
use Rattle.rt_app.specs.declared.app.Mono.{Mono}
use Rattle.rt_app.specs.declared.app.Task as code
use Rattle.rt_app.specs.Tree.{Task, App}
use Rattle.rt_app.specs.View.{task_of}
use Rattle.rt_ids.specs.Exception.{entry_words}
use Rattle.rt_ids.specs.Lists.{greatest, is_some_and}
use Rattle.rt_app.specs.Level.{is_software, is_of_level}
use Rattle.rt_app.specs.Frame.{frame_words}
use Rattle.rt_app.specs.Stack.{is_bound_at, has_handler, timer_need, need, priority_bytes, bytes_below}
use Rattle.rt_frames.specs.Inside.Flags.{flags_with, HasFlags, timer_numbers}
use Rattle.rt_frames.specs.Inside.Needs.{need_at}
use Rattle.rt_frames.proofs.Flagging.{flagged_at, flagged_both}
use Rattle.rt_ids.proofs.Greatest.{greatest_append}

any_priority : (p : ℕ) (ts : List Task) → list_any (λ n. n == p) (map (λ t. t.priority) ts)
    ≡ list_any (λ t. t.priority == p) ts
any_priority p [] = refl
any_priority p (t ∷ ts) = ap (λ b. (t.priority == p) || b) (any_priority p ts)

any_timer : (p : ℕ) (mono : Option Mono) → list_any (λ n. n == p) (timer_numbers mono)
    ≡ is_some_and (λ m. m.priority == p) mono
any_timer p None = refl
any_timer p (Some mono) = or-false (mono.priority == p)

pub handlers_are : (app : App) (f0 f1 f2 : List Bool) → HasFlags f0 (λ n. false) → f1
    ≡ flags_with (map (λ t. t.priority) app.tasks) f0 → f2 ≡ flags_with (timer_numbers app.mono) f1 → length f2 ≡ 256
    → HasFlags f2 (has_handler app)
handlers_are app f0 f1 f2 none e1 e2 long = record {
  long = long;
  flag = λ p.
      let T = map (λ t. t.priority) app.tasks in
      let M = timer_numbers app.mono in
      let all = flagged_both T M f0 f1 f2 e1 e2 in
      let some : 0 < length (flags_with (T ++ M) f0) = rw (← all) (omega (arith, long)) in
      ap (λ f. get_or f p false) all ∙ flagged_at (T ++ M) f0 p some
      ∙ ap (λ b. b || list_any (λ n. n == p) (T ++ M)) (none.flag p) ∙ list_any-append (λ n. n == p) T M
      ∙ ap (λ b. b || list_any (λ n. n == p) M) (any_priority p app.tasks)
      ∙ ap (λ b. list_any (λ t. t.priority == p) app.tasks || b) (any_timer p app.mono);
}

frames_if : (b : Bool) (t : Task) (ts : List Task) → greatest
    (map (λ u. frame_words u.args u.body) (cond b (t ∷ ts) ts)) ≡ cond b
    (max (frame_words t.args t.body) (greatest (map (λ u. frame_words u.args u.body) ts)))
    (greatest (map (λ u. frame_words u.args u.body) ts))
frames_if true t ts = refl
frames_if false t ts = refl

-- of one more task, whose frame has so many words, before tasks with these frames
need_step : (software here any : Bool) (frame bound soft rest : ℕ) → (any ≡ false → soft ≡ 0)
    → max bound (cond any (16 + soft) 0) ≡ rest
    → max (cond (not software && here) (max frame bound) bound)
    (cond ((software && here) || any) (16 + cond (software && here) (max frame soft) soft) 0)
    ≡ max (cond here (cond software (16 + frame) frame) 0) rest
need_step true true true frame bound soft rest none e = omega arith
need_step true true false frame bound soft rest none e = omega (arith, none refl)
need_step true false true frame bound soft rest none e = omega arith
need_step true false false frame bound soft rest none e = omega arith
need_step false true true frame bound soft rest none e = omega arith
need_step false true false frame bound soft rest none e = omega arith
need_step false false true frame bound soft rest none e = omega arith
need_step false false false frame bound soft rest none e = omega arith

none_step : (b any : Bool) (t : Task) (ts us : List Task)
    → (any ≡ false → greatest (map (λ u. frame_words u.args u.body) us) ≡ 0) → (b || any) ≡ false
    → greatest (map (λ u. frame_words u.args u.body) (cond b (t ∷ us) us)) ≡ 0
none_step true any t ts us rest h = cc
none_step false any t ts us rest h = rest h

no_frame : (p : ℕ) (ts : List Task) → list_any (is_of_level p) ts ≡ false
    → greatest (map (λ u. frame_words u.args u.body) (filter (is_of_level p) ts)) ≡ 0
no_frame p [] h = refl
no_frame p (t ∷ ts) h = none_step (is_of_level p t) (list_any (is_of_level p) ts) t ts (filter (is_of_level p) ts)
    (no_frame p ts) h

tasks_need_is : (p : ℕ) (ts : List Task)
    → max (greatest (map (λ u. frame_words u.args u.body) (filter (is_bound_at p) ts)))
    (cond (list_any (is_of_level p) ts)
    (16 + greatest (map (λ u. frame_words u.args u.body) (filter (is_of_level p) ts))) 0)
    ≡ greatest (map (need_at p) ts)
tasks_need_is p [] = refl
tasks_need_is p (t ∷ ts) =
    let B = filter (is_bound_at p) ts in
    let S = filter (is_of_level p) ts in
    rw (frames_if (is_bound_at p t) t B, frames_if (is_of_level p t) t S)
    (need_step (is_software t) (t.priority == p) (list_any (is_of_level p) ts) (frame_words t.args t.body)
    (greatest (map (λ u. frame_words u.args u.body) B)) (greatest (map (λ u. frame_words u.args u.body) S))
    (greatest (map (need_at p) ts)) (no_frame p ts)
    (tasks_need_is p ts))

pub need_is : (app : App) (p : ℕ) → need app p ≡ max (greatest (map (need_at p) app.tasks)) (timer_need app p)
need_is app p = omega (arith, tasks_need_is p app.tasks)

pub greatest_more : (of_task : Task → ℕ) (xs : List code.Task) (i : ℕ) (x : code.Task) → i < length xs → x
    ≡ get_or xs i x
    → greatest (map of_task (map task_of (take (i + 1) xs))) ≡ max (greatest (map of_task (map task_of (take i xs))))
    (of_task (task_of x))
greatest_more of_task xs i x h e =
    ap (λ ts. greatest (map of_task ts)) (map_more task_of xs i x h)
    ∙ ap greatest (map-append of_task (map task_of (take i xs)) (task_of (get_or xs i x) ∷ []))
    ∙ greatest_append (map of_task (map task_of (take i xs))) (of_task (task_of (get_or xs i x)) ∷ [])
    ∙ ap (λ y. max (greatest (map of_task (map task_of (take i xs)))) (max (of_task (task_of y)) 0)) (sym e)
    ∙ max_alone (greatest (map of_task (map task_of (take i xs)))) (of_task (task_of x))

pub bytes_none : (app : App) → bytes_below app 0 ≡ 0
unfolding bytes_below
bytes_none app = refl

pub bytes_more : (app : App) (p : ℕ) → bytes_below app (p + 1) ≡ bytes_below app p + priority_bytes app p
unfolding bytes_below
bytes_more app p = rw add-one refl

pub level_is : (app : App) (flags : List Bool) → HasFlags flags (has_handler app) → (p k : ℕ) → k ≡ p
    → cond (get_or flags k false) (4 * (entry_words app.fpu + need app p)) 0 ≡ priority_bytes app p
level_is app flags has p k e =
    ap (λ b. cond b (4 * (entry_words app.fpu + need app p)) 0) (ap (λ j. get_or flags j false) e ∙ has.flag p)

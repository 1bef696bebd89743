-- What items tell of the queues is what the queues hold, without the arguments of messages, whatever an action changes.
use Rattle.std.proofs.Common.{◌≡◌, ℕ, zero, suc, ◌+◌, ◌==◌, Bool, true, false, not, cond, if◌then◌else◌, count_by, find}
use Rattle.std.proofs.Common.{List, [], ◌∷◌, ◌++◌, drop, map, Option, Some, None, option_map, refl, sym, ap, subst, ◌∙◌}
use Rattle.std.proofs.Common.{append-nil, append_assoc}
use Rattle.std.specs.List.{position_or_len, remove, flat_map}
use Rattle.std.proofs.lemmas.Bool.{eqb-true}
use Rattle.std.proofs.lemmas.List.{map-append, map_push, flat_map_more}
use Rattle.std.proofs.lemmas.List.Sums.{sum_by-cons}
use Rattle.std.proofs.lemmas.Option.{same_Some}
use Rattle.rt_actions.specs.Location.{Guarded}
use Rattle.rt_actions.specs.Content.{Message, Armed, Timed, Values, Messages, messages, timer_content, delays, lesser}
use Rattle.rt_actions.specs.Content.{nothing_armed, least_instant, has_instant, least, has_handle}
use Rattle.rt_actions.specs.Content.{message_of_handle, without_handle, with_armed, postponed_message, with_fired}
use Rattle.rt_actions.specs.Content.{with_cancelled, with_moved}
use Rattle.rt_actions.specs.Action.{Action, Places, Frees, Readies, Starts, Arms, Fires, Cancels, Moves, SetsAlarm}
use Rattle.rt_actions.specs.Action.{Returns, effect}
use Rattle.rt_ids.specs.declared.ids.Section.{Section}
use Rattle.rt_ids.specs.declared.ids.Section.TheVariants as section
use Rattle.rt_trace.specs.declared.item.What.{What}
use Rattle.rt_trace.specs.declared.item.What.TheVariants as what
use Rattle.rt_app.specs.Tree.{App}
use Rattle.rt_app.specs.Bodies.{task_priority}
use Rattle.rt_laws.specs.State.{Role, State}
use Rattle.rt_laws.specs.Giving.{next_instant, is_due, item_of}
use Rattle.rt_laws.specs.Queues.{KeepsOrder}
use Rattle.rt_laws.specs.MessagesByItems.{readied, started, ready_tasks, start_tasks, timer_behind, timer_from}
use Rattle.rt_laws.specs.MessagesByItems.{still_armed}
use Rattle.rt_laws.proofs.Fine.{SameQueues, Queued, ActsFine}
use Rattle.rt_laws.proofs.Counted.{level_of, oldest_level, else_by_alarm, else_by_return}
use Rattle.rt_laws.proofs.ItemCounts.{one_if, IsElse}

-- an armed message, and the timer queue, without arguments
abbrev pub unargued : Armed → Armed
unargued a = record a { message = record { task = a.message.task; args = [] } }

abbrev pub queue_unargued : Timed → Timed
queue_unargued q = record q { armed = map unargued q.armed }

-- maps of lists, with a test that goes by what stays
module _ {X : Type 0} (f : X → X) (test : X → Bool) (same : (x : X) → test (f x) ≡ test x) where
  find_map : (xs : List X) → find test (map f xs) ≡ option_map f (find test xs)
  find_map [] = refl
  find_map (x ∷ xs) =
      ap (λ b. cond b (Some (f x)) (find test (map f xs))) (same x) ∙ go (test x) (find_map xs)
    where
      go : (b : Bool) → find test (map f xs) ≡ option_map f (find test xs)
          → cond b (Some (f x)) (find test (map f xs)) ≡ option_map f (cond b (Some x) (find test xs))
      go true later = refl
      go false later = later

  position_map : (xs : List X) → position_or_len test (map f xs) ≡ position_or_len test xs
  position_map [] = refl
  position_map (x ∷ xs) =
      ap (λ b. cond (not b) (1 + position_or_len test (map f xs)) 0) (same x)
      ∙ ap (λ n. cond (not (test x)) (1 + n) 0) (position_map xs)

  remove_map : (n : ℕ) (xs : List X) → map f (remove xs n) ≡ remove (map f xs) n
  remove_map zero [] = refl
  remove_map zero (x ∷ xs) = refl
  remove_map (suc n) [] = refl
  remove_map (suc n) (x ∷ xs) = ap (λ ys. f x ∷ ys) (remove_map n xs)

  without_map : (xs : List X) → map f (remove xs (position_or_len test xs))
      ≡ remove (map f xs) (position_or_len test (map f xs))
  without_map xs = remove_map (position_or_len test xs) xs ∙ ap (remove (map f xs)) (sym (position_map xs))

pub count_map : {X : Type 0} (f : X → X) (test : X → Bool) (xs : List X)
    → count_by test (map f xs) ≡ count_by (λ x. test (f x)) xs
count_map f test [] = refl
count_map f test (x ∷ xs) =
    sum_by-cons (λ y. one_if (test y)) (f x) (map f xs)
    ∙ ap (λ n. one_if (test (f x)) + n) (count_map f test xs)
    ∙ sym (sum_by-cons (λ y. one_if (test (f y))) x xs)

least_unargued : (all : List Armed) → least_instant (map unargued all) ≡ least_instant all
least_unargued [] = refl
least_unargued (a ∷ all) = ap (λ o. Some (lesser a.instant o)) (least_unargued all)

same_instant : (o : Option ℕ) (a : Armed) → has_instant o (unargued a) ≡ has_instant o a
same_instant None a = refl
same_instant (Some i) a = refl

-- the least and the one of a handle, without arguments
pub least_told : (all : List Armed) → least (map unargued all) ≡ option_map unargued (least all)
least_told all =
    ap (λ o. find (has_instant o) (map unargued all)) (least_unargued all)
    ∙ find_map unargued (has_instant (least_instant all)) (same_instant (least_instant all)) all

pub handle_told : (n h : ℕ) (all : List Armed)
    → message_of_handle n h (map unargued all) ≡ option_map unargued (message_of_handle n h all)
handle_told n h all = find_map unargued (has_handle n h) (λ a. refl) all

-- a change of the queue is one of the queue without arguments
arms_told : (i : ℕ) (m : Message) (q : Timed)
    → queue_unargued (with_armed i m q) ≡ with_armed i (record { task = m.task; args = [] }) (queue_unargued q)
arms_told i m q = ap (λ all. record { given = q.given + 1; moved = q.moved; armed = all })
    (map_push unargued q.armed (record { instant = i; message = m; handle = q.given + 1 }))

fires_told : (q : Timed) → queue_unargued (with_fired q) ≡ with_fired (queue_unargued q)
fires_told q = ap (λ all. record q { armed = all })
    (without_map unargued (has_instant (least_instant q.armed)) (same_instant (least_instant q.armed)) q.armed
    ∙ ap (λ o. remove (map unargued q.armed) (position_or_len (has_instant o) (map unargued q.armed)))
    (sym (least_unargued q.armed)))

cancels_told : (n h : ℕ) (q : Timed) → queue_unargued (with_cancelled n h q) ≡ with_cancelled n h (queue_unargued q)
cancels_told n h q = ap (λ all. record q { armed = all }) (without_map unargued (has_handle n h) (λ a. refl) q.armed)

moves_told : (n h i : ℕ) (q : Timed) → queue_unargued (with_moved n h i q) ≡ with_moved n h i (queue_unargued q)
moves_told n h i q = ap (λ all. record { given = q.given; moved = q.moved + 1; armed = all })
    (map-append unargued (without_handle n h q.armed) (postponed_message i (message_of_handle n h q.armed))
    ∙ ap (λ all. all ++ map unargued (postponed_message i (message_of_handle n h q.armed)))
    (without_map unargued (has_handle n h) (λ a. refl) q.armed)
    ∙ ap (λ all. without_handle n h (map unargued q.armed) ++ all)
    (put_off (message_of_handle n h q.armed) ∙ ap (postponed_message i) (sym (handle_told n h q.armed))))
  where
    put_off : (o : Option Armed) → map unargued (postponed_message i o)
        ≡ postponed_message i (option_map unargued o)
    put_off None = refl
    put_off (Some a) = refl

timer_push : (q : Timed) (ws : List What) (w : What) → timer_from q (ws ++ w ∷ []) ≡ timer_behind (timer_from q ws) w
timer_push q [] w = refl
timer_push q (x ∷ ws) w = timer_push (timer_behind q x) ws w

tasks_push : (f : What → List ℕ) (ws : List What) (w : What) → flat_map f (ws ++ w ∷ []) ≡ flat_map f ws ++ f w
tasks_push f ws w = sym (flat_map_more f [] ws w)

-- an item that names no task's place or message leaves the queues
record LeavesQueues (app : App) (w : What) : Type 0 where
  timer : (q : Timed) → timer_behind q w ≡ q
  ready : (p : ℕ) → readied app p w ≡ []
  start : (p : ℕ) → started app p w ≡ []

else_leaves : (app : App) (w : What) → IsElse w → LeavesQueues app w
else_leaves app (what.Placed u) is = absurd is
else_leaves app (what.Ready u) is = absurd is
else_leaves app (what.Start u args) is = absurd is
else_leaves app (what.Free u) is = absurd is
else_leaves app (what.Arm u i) is = absurd is
else_leaves app (what.Fire u) is = absurd is
else_leaves app (what.Cancel u h) is = absurd is
else_leaves app (what.Move u h i) is = absurd is
else_leaves app w is = record { timer = λ q. refl; ready = λ p. refl; start = λ p. refl }

abbrev tasks_of : List Message → List ℕ
tasks_of ms = map (λ m. m.task) ms

-- the queues hold what these items tell
pub record Told (app : App) (ws : List What) (vs : Values) : Type 0 where
  pub timer : queue_unargued (timer_content (vs (Guarded section.Timer))) ≡ timer_from nothing_armed ws
  pub ready : (p : ℕ) → ready_tasks app p ws
      ≡ start_tasks app p ws ++ tasks_of (messages (vs (Guarded (section.Ready p))))

pub told_armed : (app : App) (ws : List What) (vs : Values) → Told app ws vs
    → still_armed ws ≡ map unargued (delays (vs (Guarded section.Timer)))
told_armed app ws vs told = ap (λ (q : Timed). q.armed) (sym told.timer)

pub told_same : (app : App) (ws : List What) (vs us : Values) → SameQueues us vs → Told app ws vs → Told app ws us
told_same app ws vs us same told = record {
  timer = ap (λ c. queue_unargued (timer_content c)) (same section.Timer tt) ∙ told.timer;
  ready = λ p. told.ready p ∙ ap (λ c. start_tasks app p ws ++ tasks_of (messages c))
      (sym (same (section.Ready p) tt));
}

module _ (app : App) (ws : List What) (vs : Values) (told : Told app ws vs) where
  abbrev ready_at : ℕ → List Message
  ready_at p = messages (vs (Guarded (section.Ready p)))

  -- neither an item of the ready queues
  ready_kept : (w : What) → ((p : ℕ) → readied app p w ≡ []) → ((p : ℕ) → started app p w ≡ []) → (p : ℕ)
      → ready_tasks app p (ws ++ w ∷ []) ≡ start_tasks app p (ws ++ w ∷ []) ++ tasks_of (ready_at p)
  ready_kept w readies starts p =
      none (readied app p) (readies p)
      ∙ told.ready p
      ∙ ap (λ ts. ts ++ tasks_of (ready_at p)) (sym (none (started app p) (starts p)))
    where
      none : (f : What → List ℕ) → f w ≡ [] → flat_map f (ws ++ w ∷ []) ≡ flat_map f ws
      none f is = tasks_push f ws w ∙ ap (λ ts. flat_map f ws ++ ts) is ∙ append-nil (flat_map f ws)

  -- nor one of the timer queue
  timer_kept : (w : What) → ((q : Timed) → timer_behind q w ≡ q)
      → queue_unargued (timer_content (vs (Guarded section.Timer))) ≡ timer_from nothing_armed (ws ++ w ∷ [])
  timer_kept w stays =
      told.timer ∙ sym (stays (timer_from nothing_armed ws)) ∙ sym (timer_push nothing_armed ws w)

  pub told_else : (w : What) → IsElse w → Told app (ws ++ w ∷ []) vs
  told_else w is =
      let leaves = else_leaves app w is in
      record { timer = timer_kept w leaves.timer; ready = ready_kept w leaves.ready leaves.start }

  -- an item of a place
  place_told : (w : What) (us : Values) → us (Guarded section.Timer) ≡ vs (Guarded section.Timer)
      → ((p : ℕ) → us (Guarded (section.Ready p)) ≡ vs (Guarded (section.Ready p)))
      → ((q : Timed) → timer_behind q w ≡ q) → ((p : ℕ) → readied app p w ≡ []) → ((p : ℕ) → started app p w ≡ [])
      → Told app (ws ++ w ∷ []) us
  place_told w us timer ready stays readies starts = record {
    timer = ap (λ c. queue_unargued (timer_content c)) timer ∙ timer_kept w stays;
    ready = λ p. ready_kept w readies starts p ∙ ap (λ c. start_tasks app p (ws ++ w ∷ []) ++ tasks_of (messages c))
        (sym (ready p));
  }

  -- an item of the timer queue
  timer_told : (w : What) (now : Timed) (us : Values) → timer_content (us (Guarded section.Timer)) ≡ now
      → queue_unargued now ≡ timer_behind (queue_unargued (timer_content (vs (Guarded section.Timer)))) w
      → ((p : ℕ) → us (Guarded (section.Ready p)) ≡ vs (Guarded (section.Ready p)))
      → ((p : ℕ) → readied app p w ≡ []) × ((p : ℕ) → started app p w ≡ [])
      → Told app (ws ++ w ∷ []) us
  timer_told w now us is changed ready none = record {
    timer = ap queue_unargued is ∙ changed ∙ ap (λ q. timer_behind q w) told.timer
        ∙ sym (timer_push nothing_armed ws w);
    ready = λ p. ready_kept w none.0 none.1 p ∙ ap (λ c. start_tasks app p (ws ++ w ∷ []) ++ tasks_of (messages c))
        (sym (ready p));
  }

  readies_told : (p : ℕ) (m : Message) → p ≡ task_priority app m.task
      → Told app (ws ++ what.Ready m.task ∷ []) (effect (Readies p m) vs)
  readies_told p m own = record {
    timer = timer_kept (what.Ready m.task) (λ q. refl);
    ready = λ r.
        tasks_push (readied app r) ws (what.Ready m.task)
        ∙ subst (λ level. ready_tasks app r ws ++ (if level == r then m.task ∷ [] else [])
        ≡ start_tasks app r ws ++ tasks_of (messages (effect (Readies p m) vs (Guarded (section.Ready r))))) own
        (go r (p == r) refl)
        ∙ ap (λ ts. ts ++ tasks_of (messages (effect (Readies p m) vs (Guarded (section.Ready r)))))
        (sym (append-nil (start_tasks app r ws)) ∙ sym (tasks_push (started app r) ws (what.Ready m.task)));
  }
    where
      go : (r : ℕ) (b : Bool) → (p == r) ≡ b
          → ready_tasks app r ws ++ (if b then m.task ∷ [] else [])
          ≡ start_tasks app r ws
          ++ tasks_of (messages (if b then Messages (ready_at p ++ m ∷ []) else vs (Guarded (section.Ready r))))
      go r true same =
          ap (λ ts. ts ++ m.task ∷ []) (told.ready r)
          ∙ append_assoc (start_tasks app r ws) (tasks_of (ready_at r)) (m.task ∷ [])
          ∙ ap (λ ts. start_tasks app r ws ++ ts) (sym (map_push (λ k. k.task) (ready_at r) m))
          ∙ ap (λ k. start_tasks app r ws ++ tasks_of (ready_at k ++ m ∷ [])) (sym (eqb-true p r same))
      go r false other = append-nil (ready_tasks app r ws) ∙ told.ready r

  starts_told : (p : ℕ) (m : Message) (more : List Message) → p ≡ task_priority app m.task → ready_at p ≡ m ∷ more
      → Told app (ws ++ what.Start m.task m.args ∷ []) (effect (Starts p m) vs)
  starts_told p m more own is = record {
    timer = timer_kept (what.Start m.task m.args) (λ q. refl);
    ready = λ r.
        tasks_push (readied app r) ws (what.Start m.task m.args)
        ∙ append-nil (ready_tasks app r ws)
        ∙ subst (λ level. ready_tasks app r ws ≡ start_tasks app r ws ++ (if level == r then m.task ∷ [] else [])
        ++ tasks_of (messages (effect (Starts p m) vs (Guarded (section.Ready r))))) own (go r (p == r) refl)
        ∙ ap (λ ts. ts ++ tasks_of (messages (effect (Starts p m) vs (Guarded (section.Ready r)))))
        (sym (tasks_push (started app r) ws (what.Start m.task m.args)));
  }
    where
      go : (r : ℕ) (b : Bool) → (p == r) ≡ b
          → ready_tasks app r ws ≡ start_tasks app r ws ++ (if b then m.task ∷ [] else [])
          ++ tasks_of (messages (if b then Messages (drop 1 (ready_at p)) else vs (Guarded (section.Ready r))))
      go r true same =
          told.ready r
          ∙ ap (λ k. start_tasks app r ws ++ tasks_of (ready_at k)) (sym (eqb-true p r same))
          ∙ ap (λ ms. start_tasks app r ws ++ tasks_of ms) is
          ∙ sym (append_assoc (start_tasks app r ws) (m.task ∷ []) (tasks_of more))
          ∙ ap (λ ms. start_tasks app r ws ++ m.task ∷ [] ++ tasks_of (drop 1 ms)) (sym is)
      go r false other =
          told.ready r
          ∙ ap (λ ts. ts ++ tasks_of (ready_at r)) (sym (append-nil (start_tasks app r ws)))

-- so it is behind an action of the running job, with its item
module _ (app : App) (s : State) (role : Role) (q : ℕ) (held : List Section) (queued : Queued app s.values)
    (ws : List What) (told : Told app ws s.values) where
  abbrev queue : Timed
  queue = timer_content (s.values (Guarded section.Timer))

  abbrev Behind : Action → What → Type 0
  Behind action w = Told app (ws ++ w ∷ []) (effect action s.values)

  pub effect_told : (action : Action) (w : What) → item_of s role action ≡ Some w
      → ActsFine app role q held action → KeepsOrder app s.time s.values action → Behind action w
  effect_told (Places n) w is fine order =
      subst (Behind (Places n)) (same_Some (what.Placed n) w is)
      (place_told app ws s.values told (what.Placed n) (effect (Places n) s.values) refl (λ p. refl) (λ q. refl)
      (λ p. refl) (λ p. refl))
  effect_told (Frees n) w is fine order =
      subst (Behind (Frees n)) (same_Some (what.Free n) w is)
      (place_told app ws s.values told (what.Free n) (effect (Frees n) s.values) refl (λ p. refl) (λ q. refl)
      (λ p. refl) (λ p. refl))
  effect_told (Arms i m) w is fine order =
      subst (Behind (Arms i m)) (same_Some (what.Arm m.task i) w is)
      (timer_told app ws s.values told (what.Arm m.task i) (with_armed i m queue) (effect (Arms i m) s.values) refl
      (arms_told i m queue) (λ p. refl) ((λ p. refl), λ p. refl))
  effect_told (Fires m) w is fine order =
      subst (Behind (Fires m)) (same_Some (what.Fire m.task) w is)
      (timer_told app ws s.values told (what.Fire m.task) (with_fired queue) (effect (Fires m) s.values) refl
      (fires_told queue) (λ p. refl) ((λ p. refl), λ p. refl))
  effect_told (Cancels n h) w is fine order =
      subst (Behind (Cancels n h)) (same_Some (what.Cancel n h) w is)
      (timer_told app ws s.values told (what.Cancel n h) (with_cancelled n h queue) (effect (Cancels n h) s.values)
      refl (cancels_told n h queue) (λ p. refl) ((λ p. refl), λ p. refl))
  effect_told (Moves n h i) w is fine order =
      subst (Behind (Moves n h i)) (same_Some (what.Move n h i) w is)
      (timer_told app ws s.values told (what.Move n h i) (with_moved n h i queue) (effect (Moves n h i) s.values)
      refl (moves_told n h i queue) (λ p. refl) ((λ p. refl), λ p. refl))
  effect_told (Readies p m) w is fine order =
      subst (Behind (Readies p m)) (same_Some (what.Ready m.task) w is)
      (readies_told app ws s.values told p m (level_of app p m fine))
  effect_told (Starts p m) w is fine order =
      let own = oldest_level app p m order.0 (messages (s.values (Guarded (section.Ready p)))) order.1
      (queued.ready p) in
      subst (Behind (Starts p m)) (same_Some (what.Start m.task m.args) w is)
      (starts_told app ws s.values told p m order.0 own order.1)
  effect_told SetsAlarm w is fine order =
      told_else app ws s.values told w
      (subst IsElse (same_Some _ w is) (else_by_alarm (is_due s.time (next_instant s))))
  effect_told Returns w is fine order = told_else app ws s.values told w (else_by_return role w is)
  effect_told action w is fine order = told_else app ws s.values told w (subst IsElse (same_Some _ w is) tt)

-- What is left to do is well formed, whatever the values are on the way: sections nest and are entered within their
-- ceilings, an entry that may hold a priority off costs no more than the waiting bound, and each end and return is its
-- job's own and outside all sections.
use Rattle.std.proofs.Common.{◌≡◌, ℕ, suc, ◌≤◌, ◌<◌, ◌^◌, ◌==◌, Bool, true, false, if◌then◌else◌, List, [], ◌∷◌, ◌++◌}
use Rattle.std.proofs.Common.{drop, take, slice_get, IfSome, ◌+◌, ◌-◌, Option, Some, None, refl, sym, ap, subst, ◌∙◌}
use Rattle.std.proofs.Common.{arith}
use Rattle.std.specs.List.{AllByRecursion, position_or_len}
use Rattle.std.proofs.lemmas.Bool.{eqb-true}
use Rattle.rt_lemmas.proofs.Membership.{all_append}
use Rattle.rt_lemmas.proofs.Lists.{find_has}
use Rattle.rt_ids.specs.Lists.{is_some_and}
use Rattle.rt_ids.specs.Choice.{IsIn}
use Rattle.rt_actions.specs.Location.{Guarded, is_same_section}
use Rattle.rt_actions.specs.Content.{Message, Armed, Content, Values, Number, Messages, Delays, number, messages}
use Rattle.rt_actions.specs.Content.{timer_content, delays, values_with, has_instant, least_instant, least, has_handle}
use Rattle.rt_actions.specs.Content.{message_of_handle, without_handle, postponed_message, with_armed, with_fired}
use Rattle.rt_actions.specs.Content.{with_cancelled, with_moved}
use Rattle.rt_actions.specs.Action.{Action, Enters, Leaves, Places, FindsFull, Frees, Readies, Starts, Arms, Fires}
use Rattle.rt_actions.specs.Action.{Cancels}
use Rattle.rt_actions.specs.Action.{Moves, Ends, Returns, effect}
use Rattle.rt_actions.specs.Doing.{Doing, over, does}
use Rattle.rt_actions.proofs.Sections.{one_section}
use Rattle.rt_ids.specs.declared.ids.BodyId.TheVariants as body
use Rattle.rt_ids.specs.declared.ids.Section.{Section}
use Rattle.rt_ids.specs.declared.ids.Section.TheVariants as section
use Rattle.rt_app.specs.Tree.{App}
use Rattle.rt_app.specs.Level.{is_software, is_of_level, is_armed}
use Rattle.rt_app.specs.Ceiling.{ceiling}
use Rattle.rt_app.specs.Waiting.{waiting_bound}
use Rattle.rt_app.specs.Sending.{Rest, act, act_all, capacity_of}
use Rattle.rt_laws.specs.State.{Role, Init, Idle, Serving, first_values, reached_values}
use Rattle.rt_laws.specs.Queues.{queue_of, InQueue, KeepsOrder}
use Rattle.rt_laws.specs.Preemption.{greatest_ceiling}
use Rattle.rt_laws.proofs.Handled.{Handled, all_drop, all_remove, handled_armed, handled_less, handled_moved}

-- a message to a task of a level; a message to a task that may be armed
abbrev pub OfLevel : App → ℕ → Message → Type 0
OfLevel app p m = is_some_and (is_of_level p) (slice_get app.tasks m.task) ≡ true

abbrev pub IsTimed : App → Message → Type 0
IsTimed app m = (is_armed app m.task ≡ true) × (is_some_and is_software (slice_get app.tasks m.task) ≡ true)

-- one that is armed
abbrev pub IsTimedOne : App → Armed → Type 0
IsTimedOne app a = IsTimed app a.message

-- each queue holds messages to its own tasks, and no more places are out than a task has
pub record Queued (app : App) (vs : Values) : Type 0 where
  pub ready : (p : ℕ) → AllByRecursion (OfLevel app p) (messages (vs (Guarded (section.Ready p))))
  pub timer : AllByRecursion (IsTimedOne app) (delays (vs (Guarded section.Timer)))
  pub handles : Handled (timer_content (vs (Guarded section.Timer)))
  pub out : (n : ℕ) → number (vs (Guarded (section.Free n))) ≤ capacity_of app n

-- so it is at reset
pub first_queued : (app : App) → Queued app (first_values app)
first_queued app = record {
  ready = λ p. tt;
  timer = tt;
  handles = record { given = tt; apart = tt };
  out = λ n. omega arith;
}

-- a section of a queue
abbrev pub IsQueue : Section → Type 0
IsQueue (section.Res r) = ⊥
IsQueue x = Unit {0}

-- queues hold the same
abbrev pub SameQueues : Values → Values → Type 0
SameQueues vs ws = (x : Section) → IsQueue x → vs (Guarded x) ≡ ws (Guarded x)

-- so do the queues of these sections
abbrev pub SameOpen : List Section → Values → Values → Type 0
SameOpen held vs ws = (x : Section) → IsQueue x → IsIn held x → vs (Guarded x) ≡ ws (Guarded x)

-- a section that a job of a priority may enter: `init` runs with interrupts masked, and may enter any
abbrev pub Within : Role → ℕ → ℕ → Type 0
Within Init q c = Unit {0}
Within role q c = q ≤ c

abbrev pub held_after : List Section → Action → List Section
held_after held (Enters x cost) = x ∷ held
held_after held (Leaves x) = drop 1 held
held_after held action = held

module _ (app : App) (role : Role) (q : ℕ) where
  -- of the priorities that the entry holds off, and no section round it does
  abbrev pub IsCounted : ℕ → ℕ → ℕ → Type 0
  IsCounted outer c cost = (p : ℕ) → q < p → p ≤ 2 ^ app.bits → outer < p → p ≤ c → cost ≤ waiting_bound app p

  pub record EntersFine (held : List Section) (x : Section) (cost : ℕ) : Type 0 where
    pub within : Within role q (ceiling app x)
    pub once : ¬ IsIn held x
    pub counted : IsCounted (greatest_ceiling app held) (ceiling app x) cost

  abbrev pub ActsFine : List Section → Action → Type 0
  ActsFine held (Enters x cost) = EntersFine held x cost
  ActsFine held (Leaves x) = (others : List Section) × (held ≡ x ∷ others)
  ActsFine held (Readies p m) = OfLevel app p m
  ActsFine held (Arms i m) = IsTimed app m
  ActsFine held (Ends body.Init) = (role ≡ Init) × (held ≡ [])
  ActsFine held (Ends body.Idle) = (role ≡ Idle) × (held ≡ [])
  ActsFine held (Ends (body.Task n)) = held ≡ []
  ActsFine held Returns = (irq : ℕ) × (role ≡ Serving irq) × (held ≡ [])
  ActsFine held action = Unit {0}

  -- Behind an action with this answer and these values. The queues whose sections were open as it was done hold what it
  -- made of them.
  abbrev pub IsFine : ℕ → List Section → Values → Doing Values → Type 0
  IsFine answered held base over = Unit {0}
  IsFine answered held base (does action made next) =
      Queued app made × ActsFine held action × InQueue held action × SameQueues made base
      × KeepsOrder app answered made action
      × ((n : ℕ) (vs : Values) → Queued app vs → SameOpen held vs (effect action made)
      → IsFine n (held_after held action) vs (next n vs))

  abbrev pub FineRest : List Section → Rest → Type 0
  FineRest held rest = (n : ℕ) (vs : Values) → Queued app vs → IsFine n held vs (rest vs)

  -- an action of which nothing is asked by the values
  abbrev pub IsPlain : List Section → Action → Type 0
  IsPlain held action = InQueue held action × ((n : ℕ) (vs : Values) → KeepsOrder app n vs action)

  pub first_fine : (held : List Section) (action : Action) (rest : Rest) → ActsFine held action → InQueue held action
      → FineRest (held_after held action) rest → (n : ℕ) (vs : Values) → Queued app vs → KeepsOrder app n vs action
      → IsFine n held vs (act action rest vs)
  first_fine held action rest fine inside later n vs queued order =
      (queued, fine, inside, (λ x queue. refl), order, λ k ws good same. later k ws good)

  pub act_fine : (held : List Section) (action : Action) (rest : Rest) → ActsFine held action → IsPlain held action
      → FineRest (held_after held action) rest → FineRest held (act action rest)
  act_fine held action rest fine plain later n vs queued =
      first_fine held action rest fine plain.0 later n vs queued (plain.1 n vs)

  abbrev pub held_behind : List Section → List Action → List Section
  held_behind held [] = held
  held_behind held (action ∷ actions) = held_behind (held_after held action) actions

  abbrev pub AllFine : List Section → List Action → Type 0
  AllFine held [] = Unit {0}
  AllFine held (action ∷ actions) =
      ActsFine held action × IsPlain held action × AllFine (held_after held action) actions

  pub acts_fine : (held : List Section) (actions : List Action) (rest : Rest) → AllFine held actions
      → FineRest (held_behind held actions) rest → FineRest held (act_all actions rest)
  acts_fine held [] rest fine later = later
  acts_fine held (action ∷ actions) rest fine later =
      act_fine held action (act_all actions rest) fine.0 fine.1
      (acts_fine (held_after held action) actions rest fine.2 later)

  -- values that are the same in the queues
  pub rebase : (n : ℕ) (held : List Section) (base other : Values) (rest : Doing Values) → IsFine n held base rest
      → SameQueues base other → IsFine n held other rest
  rebase n held base other over fine same = tt
  rebase n held base other (does action made next) fine same =
      (fine.0, fine.1, fine.2, (λ x queue. fine.3 x queue ∙ same x queue), fine.4, fine.5)

  -- what is reached is the same in the queues
  pub reached_same : (n : ℕ) (held : List Section) (rest : Doing Values) (vs : Values) → IsFine n held vs rest
      → SameQueues (reached_values rest vs) vs
  reached_same n held over vs fine x queue = refl
  reached_same n held (does action made next) vs fine x queue = fine.3 x queue

  pub reached_queued : (n : ℕ) (held : List Section) (rest : Doing Values) (vs base : Values) → IsFine n held base rest
      → Queued app vs → Queued app (reached_values rest vs)
  reached_queued n held over vs base fine queued = queued
  reached_queued n held (does action made next) vs base fine queued = fine.0

module _ (app : App) (vs : Values) (queued : Queued app vs) where
  ready_put : (p r : ℕ) (ms : List Message) → AllByRecursion (OfLevel app p) ms
      → AllByRecursion (OfLevel app r) (messages (if p == r then Messages ms else vs (Guarded (section.Ready r))))
  ready_put p r ms all = go (p == r) refl
    where
      go : (b : Bool) → (p == r) ≡ b
          → AllByRecursion (OfLevel app r) (messages (if b then Messages ms else vs (Guarded (section.Ready r))))
      go true same = subst (λ k. AllByRecursion (OfLevel app k) ms) (eqb-true p r same) all
      go false other = queued.ready r

  out_put : (n r out : ℕ) → out ≤ capacity_of app n
      → number (if n == r then Number out else vs (Guarded (section.Free r))) ≤ capacity_of app r
  out_put n r out few = go (n == r) refl
    where
      go : (b : Bool) → (n == r) ≡ b
          → number (if b then Number out else vs (Guarded (section.Free r))) ≤ capacity_of app r
      go true same = subst (λ k. out ≤ capacity_of app k) (eqb-true n r same) few
      go false other = queued.out r

  without_one : (n : ℕ) → AllByRecursion (IsTimedOne app)
      (take n (delays (vs (Guarded section.Timer))) ++ drop (suc n) (delays (vs (Guarded section.Timer))))
  without_one n = all_remove (IsTimedOne app) n (delays (vs (Guarded section.Timer))) queued.timer

  put_off : (i : ℕ) (o : Option Armed) → ((a : Armed) → o ≡ Some a → IsTimedOne app a)
      → AllByRecursion (IsTimedOne app) (postponed_message i o)
  put_off i None each = tt
  put_off i (Some a) each = (each a refl, tt)

  -- what an action changes keeps them so
  pub queued_effect : (role : Role) (q : ℕ) (held : List Section) (action : Action) → ActsFine app role q held action
      → (time : ℕ) → KeepsOrder app time vs action → Queued app (effect action vs)
  queued_effect role q held (Places n) fine time order = record {
    ready = queued.ready;
    timer = queued.timer;
    handles = queued.handles;
    out = λ r. out_put n r (number (vs (Guarded (section.Free n))) + 1) (omega arith);
  }
  queued_effect role q held (Frees n) fine time order = record {
    ready = queued.ready;
    timer = queued.timer;
    handles = queued.handles;
    out = λ r. out_put n r (number (vs (Guarded (section.Free n))) - 1)
        (less (number (vs (Guarded (section.Free n)))) (capacity_of app n) (queued.out n));
  }
    where
      less : (k c : ℕ) → k ≤ c → k - 1 ≤ c
      less k c h = omega arith
  queued_effect role q held (Readies p m) fine time order = record {
    ready = λ r. ready_put p r (messages (vs (Guarded (section.Ready p))) ++ m ∷ [])
        (all_append (OfLevel app p) (messages (vs (Guarded (section.Ready p)))) (m ∷ []) (queued.ready p) (fine, tt));
    timer = queued.timer;
    handles = queued.handles;
    out = queued.out;
  }
  queued_effect role q held (Starts p m) fine time order = record {
    ready = λ r. ready_put p r (drop 1 (messages (vs (Guarded (section.Ready p)))))
        (all_drop (OfLevel app p) 1 (messages (vs (Guarded (section.Ready p)))) (queued.ready p));
    timer = queued.timer;
    handles = queued.handles;
    out = queued.out;
  }
  queued_effect role q held (Arms i m) fine time order = record {
    ready = queued.ready;
    timer = all_append (IsTimedOne app) (delays (vs (Guarded section.Timer)))
        (record { instant = i; message = m; handle = (timer_content (vs (Guarded section.Timer))).given + 1 } ∷ [])
        queued.timer (fine, tt);
    handles = handled_armed i m (timer_content (vs (Guarded section.Timer))) queued.handles;
    out = queued.out;
  }
  queued_effect role q held (Fires m) fine time order =
      let armed : List Armed = delays (vs (Guarded section.Timer)) in
      record {
        ready = queued.ready;
        timer = without_one (position_or_len (has_instant (least_instant armed)) armed);
        handles = handled_less (position_or_len (has_instant (least_instant armed)) armed)
            (timer_content (vs (Guarded section.Timer))) queued.handles;
        out = queued.out;
      }
  queued_effect role q held (Cancels n h) fine time order =
      let armed : List Armed = delays (vs (Guarded section.Timer)) in
      record {
        ready = queued.ready;
        timer = without_one (position_or_len (has_handle n h) armed);
        handles = handled_less (position_or_len (has_handle n h) armed) (timer_content (vs (Guarded section.Timer)))
            queued.handles;
        out = queued.out;
      }
  queued_effect role q held (Moves n h i) fine time order =
      let armed : List Armed = delays (vs (Guarded section.Timer)) in
      record {
        ready = queued.ready;
        timer = all_append (IsTimedOne app) (without_handle n h armed)
            (postponed_message i (message_of_handle n h armed))
            (without_one (position_or_len (has_handle n h) armed))
            (put_off i (message_of_handle n h armed)
            (λ a is. find_has (IsTimedOne app) (has_handle n h) armed a queued.timer is));
        handles = handled_moved n h i (timer_content (vs (Guarded section.Timer))) queued.handles;
        out = queued.out;
      }
  queued_effect role q held action fine time order =
      record { ready = queued.ready; timer = queued.timer; handles = queued.handles; out = queued.out }

put_beside : (x y : Section) (content : Content) (vs : Values) → ¬ (x ≡ y)
    → values_with vs (Guarded x) content (Guarded y) ≡ vs (Guarded y)
put_beside x y content vs differs = go (is_same_section x y) refl
  where
    go : (b : Bool) → is_same_section x y ≡ b → (if b then content else vs (Guarded y)) ≡ vs (Guarded y)
    go true same = absurd (differs (one_section x y same))
    go false other = refl

-- an action changes no queue but the one whose section is open
pub effect_beside : (action : Action) (vs : Values) (held : List Section) (y : Section) → InQueue held action
    → ¬ IsIn held y
    → effect action vs (Guarded y) ≡ vs (Guarded y)
effect_beside (Places n) vs held y inside out =
    put_beside (section.Free n) y _ vs (λ same. out (subst (IsIn held) same inside))
effect_beside (Frees n) vs held y inside out =
    put_beside (section.Free n) y _ vs (λ same. out (subst (IsIn held) same inside))
effect_beside (Readies p m) vs held y inside out =
    put_beside (section.Ready p) y _ vs (λ same. out (subst (IsIn held) same inside))
effect_beside (Starts p m) vs held y inside out =
    put_beside (section.Ready p) y _ vs (λ same. out (subst (IsIn held) same inside))
effect_beside (Arms i m) vs held y inside out =
    put_beside section.Timer y _ vs (λ same. out (subst (IsIn held) same inside))
effect_beside (Fires m) vs held y inside out =
    put_beside section.Timer y _ vs (λ same. out (subst (IsIn held) same inside))
effect_beside (Cancels n h) vs held y inside out =
    put_beside section.Timer y _ vs (λ same. out (subst (IsIn held) same inside))
effect_beside (Moves n h i) vs held y inside out =
    put_beside section.Timer y _ vs (λ same. out (subst (IsIn held) same inside))
effect_beside action vs held y inside out = refl

-- it makes the same of what is the same where its section is open
put_same : (x y : Section) (change : Content → Content) (vs ws : Values) → vs (Guarded x) ≡ ws (Guarded x)
    → vs (Guarded y) ≡ ws (Guarded y)
    → values_with vs (Guarded x) (change (vs (Guarded x))) (Guarded y)
    ≡ values_with ws (Guarded x) (change (ws (Guarded x))) (Guarded y)
put_same x y change vs ws here there =
    ap (λ c. if is_same_section x y then change c else vs (Guarded y)) here
    ∙ ap (λ c. if is_same_section x y then change (ws (Guarded x)) else c) there

pub effect_same : (action : Action) (held : List Section) (vs ws : Values) → InQueue held action → SameOpen held vs ws
    → SameOpen held (effect action vs) (effect action ws)
effect_same (Places n) held vs ws inside same y queue is =
    put_same (section.Free n) y (λ c. Number (number c + 1)) vs ws (same (section.Free n) tt inside) (same y queue is)
effect_same (Frees n) held vs ws inside same y queue is =
    put_same (section.Free n) y (λ c. Number (number c - 1)) vs ws (same (section.Free n) tt inside) (same y queue is)
effect_same (Readies p m) held vs ws inside same y queue is =
    put_same (section.Ready p) y (λ c. Messages (messages c ++ m ∷ [])) vs ws (same (section.Ready p) tt inside)
    (same y queue is)
effect_same (Starts p m) held vs ws inside same y queue is =
    put_same (section.Ready p) y (λ c. Messages (drop 1 (messages c))) vs ws (same (section.Ready p) tt inside)
    (same y queue is)
effect_same (Arms i m) held vs ws inside same y queue is =
    put_same section.Timer y (λ c. Delays (with_armed i m (timer_content c))) vs ws (same section.Timer tt inside)
    (same y queue is)
effect_same (Fires m) held vs ws inside same y queue is =
    put_same section.Timer y (λ c. Delays (with_fired (timer_content c))) vs ws (same section.Timer tt inside)
    (same y queue is)
effect_same (Cancels n h) held vs ws inside same y queue is =
    put_same section.Timer y (λ c. Delays (with_cancelled n h (timer_content c))) vs ws (same section.Timer tt inside)
    (same y queue is)
effect_same (Moves n h i) held vs ws inside same y queue is =
    put_same section.Timer y (λ c. Delays (with_moved n h i (timer_content c))) vs ws (same section.Timer tt inside)
    (same y queue is)
effect_same action held vs ws inside same y queue is = same y queue is

-- what is asked goes by the one queue, and by the time
pub order_kept : (app : App) (time later : ℕ) (vs ws : Values) (action : Action) → time ≤ later
    → IfSome (queue_of action) (λ x. ws (Guarded x) ≡ vs (Guarded x)) → KeepsOrder app time vs action
    → KeepsOrder app later ws action
order_kept app time later vs ws (Places n) le same order = subst (λ c. number c < capacity_of app n) (sym same) order
order_kept app time later vs ws (FindsFull n) le same order = ap number same ∙ order
order_kept app time later vs ws (Starts p m) le same order = (order.0, ap messages same ∙ order.1)
order_kept app time later vs ws (Fires m) le same order =
    let due = order.3 in (order.0, ap (λ c. least (delays c)) same ∙ order.1, order.2, omega arith)
order_kept app time later vs ws (Cancels n h) le same order =
    (order.0, ap (λ c. message_of_handle n h (delays c)) same ∙ order.1)
order_kept app time later vs ws (Moves n h i) le same order =
    (order.0, ap (λ c. message_of_handle n h (delays c)) same ∙ order.1)
order_kept app time later vs ws action le same order = tt

-- The bodies of a sound application are well formed in what they do.
use Rattle.std.proofs.Common.{Bool, option_map, ◌≡◌, ℕ, zero, suc, ◌+◌, ◌≤◌, ◌==◌, max, true, false, if◌then◌else◌}
use Rattle.std.proofs.Common.{Contains, List, [], ◌∷◌, map, slice_get, slice_set, Option, Some, None, is_some, refl}
use Rattle.std.proofs.Common.{sym, ap, subst, ◌∙◌, arith, eq-eqb}
use Rattle.std.specs.List.{AllByRecursion}
use Rattle.std.proofs.lemmas.Bool.{ltb-true, ltb-false}
use Rattle.std.proofs.lemmas.Option.{same_Some, none-some}
use Rattle.rt_lemmas.proofs.Bools.{and_both}
use Rattle.rt_lemmas.proofs.Membership.{contains_here, contains_there}
use Rattle.rt_lemmas.proofs.Lists.{all_front, all_behind}
use Rattle.rt_ids.specs.Lists.{is_some_and, or_zero}
use Rattle.rt_ids.specs.Choice.{IsIn}
use Rattle.rt_actions.specs.Location.{Guarded, Own}
use Rattle.rt_actions.specs.Content.{Content, Values, number, timer_content, delays, message_of_handle, Message, Number}
use Rattle.rt_actions.specs.Content.{values_with}
use Rattle.rt_actions.specs.Action.{Enters, Leaves, Emits, Posts, Clocks, Places, FindsFull, Frees, Arms, Cancels}
use Rattle.rt_actions.specs.Action.{Moves}
use Rattle.rt_actions.specs.Action.{SetsAlarm}
use Rattle.rt_actions.specs.Doing.{does}
use Rattle.rt_ids.specs.declared.ids.Section.{Section}
use Rattle.rt_ids.specs.declared.ids.Section.TheVariants as section
use Rattle.rt_app.specs.declared.costs.TheConstants.{FREE_COST, READY_COST}
use Rattle.rt_app.specs.declared.expr.Atom.{Atom}
use Rattle.rt_app.specs.declared.expr.Atom.TheVariants as atom
use Rattle.rt_app.specs.Tree.{Expression, Spawn, Soon, After, Cancel, Move, Calc, Now, Call, Statement, Bind, Assign}
use Rattle.rt_app.specs.Tree.{Branch, Repeat, Locked, Emit, Pend, Spawns, Block, Empty, Then, Task, App}
use Rattle.rt_app.specs.Variables.{variables, variables_in}
use Rattle.rt_app.specs.Bodies.{Member, task_priority}
use Rattle.rt_app.specs.Level.{is_software, is_of_level}
use Rattle.rt_app.specs.Ceiling.{ceiling}
use Rattle.rt_app.specs.Handlers.{irq_number}
use Rattle.rt_app.specs.Cost.{lock_cost, block_cost}
use Rattle.rt_app.specs.BodyCost.{cost_measure, timer_section_cost, handle_section_cost}
use Rattle.rt_app.specs.Waiting.{CriticalSection, statement_sections, block_sections, spawn_sections}
use Rattle.rt_app.specs.Sending.{act, capacity_of, Rest, act_all, has_place, place_actions, ready_actions}
use Rattle.rt_app.specs.Sending.{instant_after}
use Rattle.rt_app.specs.Sending.{leave_timer, arm_actions, is_armed_as, cancel_actions, move_actions, spawn_actions}
use Rattle.rt_app.specs.Meaning.{Later, value_in, assign, turns_from, run, run_block}
use Rattle.rt_app.specs.Sound.{IsSoundSpawn, IsSoundStatement, IsSoundBlock}
use Rattle.rt_laws.specs.State.{Role}
use Rattle.rt_laws.specs.Preemption.{greatest_ceiling}
use Rattle.rt_laws.proofs.Fine.{IsQueue, SameQueues, Queued, rebase, first_fine, OfLevel, IsTimed, Within, IsCounted}
use Rattle.rt_laws.proofs.Fine.{EntersFine, IsFine, FineRest, act_fine, AllFine, acts_fine}

-- the sections of locks of these resources
abbrev pub held_of : List ℕ → List Section
held_of locked = map section.Res locked

once_in : (locked : List ℕ) (r : ℕ) → IsIn (held_of locked) (section.Res r) → Contains locked r
once_in [] r is = absurd (none-some (section.Res r) is.1)
once_in (q ∷ locked) r (zero, at) = let same : q ≡ r = cc in subst (Contains (q ∷ locked)) same (contains_here q locked)
once_in (q ∷ locked) r (suc i, at) = contains_there q locked r (once_in locked r (i, at))

no_queue : (locked : List ℕ) (x : Section) → IsQueue x → IsIn (held_of locked) x → ⊥
no_queue [] x queue is = none-some x is.1
no_queue (q ∷ locked) x queue (zero, at) = subst IsQueue (sym (same_Some (section.Res q) x at)) queue
no_queue (q ∷ locked) x queue (suc i, at) = no_queue locked x queue (i, at)

pub priority_is_of : (app : App) (n : ℕ) (t : Task) → slice_get app.tasks n ≡ Some t → task_priority app n ≡ t.priority
priority_is_of app n t is = ap (λ o. or_zero (option_map (λ t. t.priority) o)) is

-- A job of a role and a priority runs a member; what it may enter, and which sections count for the waiting bound.
module _ (app : App) (role : Role) (q : ℕ) (m : Member) (P : CriticalSection → Type 0)
    (within : (c : ℕ) → m.priority ≤ c → Within role q c)
    (counts : (outer c cost : ℕ) → P (record { priority = q; outer = outer; ceiling = c; cost = cost })
    → IsCounted app role q outer c cost) where
  abbrev FineHere : List Section → Rest → Type 0
  FineHere held rest = FineRest app role q held rest

  abbrev FineLater : List Section → Later → Type 0
  FineLater held later = (vars : List ℕ) → FineHere held (later vars)

  -- in a section of a queue, or of a resource
  entered : (held : List Section) (outer : ℕ) (x : Section) (cost : ℕ) → greatest_ceiling app held ≡ outer
      → m.priority ≤ ceiling app x → ¬ IsIn held x
      → P (record { priority = q; outer = outer; ceiling = ceiling app x; cost = cost })
      → EntersFine app role q held x cost
  entered held outer x cost same least once counted = record {
    within = within (ceiling app x) least;
    once = once;
    counted = subst (λ o. IsCounted app role q o (ceiling app x) cost) (sym same)
        (counts outer (ceiling app x) cost counted);
  }

  take_fine : (held : List Section) (n : ℕ) (granted refused : Rest)
      → EntersFine app role q held (section.Free n) FREE_COST
      → FineHere held granted → FineHere held refused → FineHere held (place_actions app n granted refused)
  take_fine held n granted refused enters first second =
      act_fine app role q held (Enters (section.Free n) FREE_COST) chosen enters (tt, λ k vs. tt)
      (λ k vs queued. go k vs queued (has_place app n vs) refl)
    where
      chosen : Rest
      chosen vs =
          if has_place app n vs then act_all (Places n ∷ Leaves (section.Free n) ∷ []) granted vs
          else act_all (FindsFull n ∷ Leaves (section.Free n) ∷ []) refused vs

      go : (k : ℕ) (vs : Values) → Queued app vs → (b : Bool) → has_place app n vs ≡ b
          → IsFine app role q k (section.Free n ∷ held) vs
          (if b then act_all (Places n ∷ Leaves (section.Free n) ∷ []) granted vs else act_all
          (FindsFull n ∷ Leaves (section.Free n) ∷ []) refused vs)
      go k vs queued true test =
          first_fine app role q (section.Free n ∷ held) (Places n) (act (Leaves (section.Free n)) granted) tt (0, refl)
          (act_fine app role q (section.Free n ∷ held) (Leaves (section.Free n)) granted (held, refl)
          (tt, λ k vs. tt) first) k vs queued
          (ltb-true (number (vs (Guarded (section.Free n)))) (capacity_of app n) test)
      go k vs queued false test =
          let full = ltb-false (number (vs (Guarded (section.Free n)))) (capacity_of app n) test in
          let few = queued.out n in
          first_fine app role q (section.Free n ∷ held) (FindsFull n) (act (Leaves (section.Free n)) refused) tt
          (0, refl)
          (act_fine app role q (section.Free n ∷ held) (Leaves (section.Free n)) refused (held, refl)
          (tt, λ k vs. tt) second) k vs queued
          (omega arith)

  pub ready_fine : (held : List Section) (p : ℕ) (message : Message)
      → EntersFine app role q held (section.Ready p) READY_COST → OfLevel app p message
      → AllFine app role q held (ready_actions app p message)
  ready_fine held p message enters level = (
    enters,
    (tt, λ k vs. tt),
    (level, ((0, refl), λ k vs. tt), (tt, (tt, λ k vs. tt), ((held, refl), (tt, λ k vs. tt), tt))),
  )

  leave_fine : (held : List Section) (rest : Rest) → FineHere held rest
      → FineHere (section.Timer ∷ held) (leave_timer app rest)
  leave_fine held rest later =
      acts_fine app role q (section.Timer ∷ held) (SetsAlarm ∷ Leaves section.Timer ∷ []) rest
      (tt, (tt, λ k vs. tt), ((held, refl), (tt, λ k vs. tt), tt)) later

  arm_fine : (held : List Section) (cost delay : ℕ) (message : Message) (rest : ℕ → Rest)
      → EntersFine app role q held section.Timer cost
      → IsTimed app message → ((n : ℕ) → FineHere held (rest n))
      → FineHere held (arm_actions app cost delay message rest)
  arm_fine held cost delay message rest enters armed later = λ n vs queued. (
    queued,
    enters,
    tt,
    (λ x queue. refl),
    tt,
    λ k ws good same. (
      good,
      tt,
      tt,
      (λ x queue. refl),
      tt,
      λ time xs r alike.
          act_fine app role q (section.Timer ∷ held) (Arms (instant_after app time delay) message)
          (λ vs. leave_timer app (rest (timer_content (vs (Guarded section.Timer))).given) vs) armed
          ((0, refl), λ k vs. tt)
          (λ k vs queued. leave_fine held (rest (timer_content (vs (Guarded section.Timer))).given)
          (later (timer_content (vs (Guarded section.Timer))).given) k vs queued)
          time xs r,
    ),
  )

  -- the message of a handle is armed, where the section opens
  found : {X : Type 0} (o : Option X) → is_some o ≡ true → (x : X) × (o ≡ Some x)
  found None test = cc
  found (Some x) test = (x, refl)

  cancel_fine : (held : List Section) (cost n handle : ℕ) (cancelled missing : Rest)
      → EntersFine app role q held section.Timer cost → EntersFine app role q held (section.Free n) FREE_COST
      → FineHere held cancelled → FineHere held missing
      → FineHere held (cancel_actions app cost n handle cancelled missing)
  cancel_fine held cost n handle cancelled missing enters frees first second =
      act_fine app role q held (Enters section.Timer cost) chosen enters (tt, λ k vs. tt)
      (λ k vs queued. go k vs queued (is_armed_as app n handle vs) refl)
    where
      back : Rest
      back = act_all (Enters (section.Free n) FREE_COST ∷ Frees n ∷ Leaves (section.Free n) ∷ []) cancelled

      chosen : Rest
      chosen vs =
          if is_armed_as app n handle vs then act (Cancels n handle) (leave_timer app back) vs
          else act (Leaves section.Timer) missing vs

      back_fine : FineHere held back
      back_fine =
          acts_fine app role q held (Enters (section.Free n) FREE_COST ∷ Frees n ∷ Leaves (section.Free n) ∷ [])
          cancelled
          (frees, (tt, λ k vs. tt), (tt, ((0, refl), λ k vs. tt), ((held, refl), (tt, λ k vs. tt), tt))) first

      go : (k : ℕ) (vs : Values) → Queued app vs → (b : Bool) → is_armed_as app n handle vs ≡ b
          → IsFine app role q k (section.Timer ∷ held) vs
          (if b then act (Cancels n handle) (leave_timer app back) vs else act (Leaves section.Timer) missing vs)
      go k vs queued true test =
          first_fine app role q (section.Timer ∷ held) (Cancels n handle) (leave_timer app back) tt (0, refl)
          (leave_fine held back back_fine) k vs queued
          (found (message_of_handle n handle (delays (vs (Guarded section.Timer)))) test)
      go k vs queued false test =
          act_fine app role q (section.Timer ∷ held) (Leaves section.Timer) missing (held, refl) (tt, λ k vs. tt)
          second k vs queued

  move_fine : (held : List Section) (cost delay n handle : ℕ) (moved missing : Rest)
      → EntersFine app role q held section.Timer cost → FineHere held moved → FineHere held missing
      → FineHere held (move_actions app cost delay n handle moved missing)
  move_fine held cost delay n handle moved missing enters first second =
      act_fine app role q held (Enters section.Timer cost) chosen enters (tt, λ k vs. tt)
      (λ k vs queued. go k vs queued (is_armed_as app n handle vs) refl)
    where
      put_off : ℕ → Rest
      put_off time = act (Moves n handle (instant_after app time delay)) (leave_timer app moved)

      chosen : Rest
      chosen vs =
          if is_armed_as app n handle vs then does Clocks vs put_off else act (Leaves section.Timer) missing vs

      go : (k : ℕ) (vs : Values) → Queued app vs → (b : Bool) → is_armed_as app n handle vs ≡ b
          → IsFine app role q k (section.Timer ∷ held) vs
          (if b then does Clocks vs put_off else act (Leaves section.Timer) missing vs)
      go k vs queued true test =
          let here = found (message_of_handle n handle (delays (vs (Guarded section.Timer)))) test in (
            queued,
            tt,
            tt,
            (λ x queue. refl),
            tt,
            λ time ws good same.
                first_fine app role q (section.Timer ∷ held) (Moves n handle (instant_after app time delay))
                (leave_timer app moved) tt (0, refl) (leave_fine held moved first) time ws good
                (here.0, ap (λ c. message_of_handle n handle (delays c)) (same section.Timer tt (0, refl)) ∙ here.1),
          )
      go k vs queued false test =
          act_fine app role q (section.Timer ∷ held) (Leaves section.Timer) missing (held, refl) (tt, λ k vs. tt)
          second k vs queued

  spawn_fine : (locked : List ℕ) (outer : ℕ) (value : Expression → ℕ) (s : Spawn) (rest : ℕ → Rest)
      → IsSoundSpawn app m locked s
      → AllByRecursion P (spawn_sections app q outer s) → greatest_ceiling app (held_of locked) ≡ outer
      → ((n : ℕ) → FineHere (held_of locked) (rest n))
      → FineHere (held_of locked) (spawn_actions app value s rest)
  spawn_fine locked outer value (Soon n args at) rest sound counted same later =
      let t = sound.0 in
      let there = sound.1.is_there in
      let as_declared : task_priority app n ≡ t.priority = priority_is_of app n t there in
      let held : List Section = held_of locked in
      let message : Message = record { task = n; args = map value args } in
      take_fine held n (act_all (ready_actions app (task_priority app n) message) (rest 1)) (rest 0)
      (entered held outer (section.Free n) FREE_COST same sound.1.within
      (no_queue locked (section.Free n) tt) counted.0)
      (acts_fine app role q held (ready_actions app (task_priority app n) message) (rest 1)
      (ready_fine held (task_priority app n) message
      (entered held outer (section.Ready (task_priority app n)) READY_COST same
      (subst (λ p. m.priority ≤ ceiling app (section.Ready p)) (sym as_declared) sound.2)
      (no_queue locked (section.Ready (task_priority app n)) tt) counted.1.0)
      (of_level n t there as_declared sound.1.software))
      (later 1))
      (later 0)
    where
      of_level : (n : ℕ) (t : Task) → slice_get app.tasks n ≡ Some t → task_priority app n ≡ t.priority
          → is_software t ≡ true
          → is_some_and (is_of_level (task_priority app n)) (slice_get app.tasks n) ≡ true
      of_level n t there as_declared software =
          ap (is_some_and (is_of_level (task_priority app n))) there
          ∙ and_both (is_software t) (t.priority == task_priority app n) software
          (eq-eqb t.priority (task_priority app n) (sym as_declared))
  spawn_fine locked outer value (After word delay n args at) rest sound counted same later =
      let held : List Section = held_of locked in
      let message : Message = record { task = n; args = map value args } in
      take_fine held n (arm_actions app (timer_section_cost app) (value delay) message rest) (rest 0)
      (entered held outer (section.Free n) FREE_COST same sound.1.within
      (no_queue locked (section.Free n) tt) counted.0)
      (arm_fine held (timer_section_cost app) (value delay) message rest
      (entered held outer section.Timer (timer_section_cost app) same sound.5
      (no_queue locked section.Timer tt) counted.1.0)
      (sound.3, ap (is_some_and is_software) sound.1.is_there ∙ sound.1.software) later)
      (later 0)
  spawn_fine locked outer value (Cancel word n handle at) rest sound counted same later =
      cancel_fine (held_of locked) (handle_section_cost app) n (value handle) (rest 0) (rest 1)
      (entered (held_of locked) outer section.Timer (handle_section_cost app) same sound.1.within
      (no_queue locked section.Timer tt) counted.0)
      (entered (held_of locked) outer (section.Free n) FREE_COST same sound.2
      (no_queue locked (section.Free n) tt) counted.1.0)
      (later 0) (later 1)
  spawn_fine locked outer value (Move word delay n handle at) rest sound counted same later =
      move_fine (held_of locked) (handle_section_cost app) (value delay) n (value handle) (rest 0) (rest 1)
      (entered (held_of locked) outer section.Timer (handle_section_cost app) same sound.1.within
      (no_queue locked section.Timer tt) counted.0)
      (later 0) (later 1)

  turns_fine : (held : List Section) (n x i : ℕ) (turn : Later → Later) (later : Later)
      → ((next : Later) → FineLater held next → FineLater held (turn next))
      → FineLater held later → FineLater held (turns_from n x i turn later)
  turns_fine held zero x i turn later each fine vars = fine (slice_set vars x i)
  turns_fine held (suc n) x i turn later each fine vars =
      each (turns_from n x (suc i) turn later) (turns_fine held n x (suc i) turn later each fine) (slice_set vars x i)

  assign_fine : (held : List Section) (x : Atom) (n : ℕ) (later : Later) → FineLater held later
      → FineLater held (assign x n later)
  assign_fine held (atom.Var x) n later fine = λ vars k vs queued. fine (slice_set vars x n) k vs queued
  assign_fine held (atom.Shared r) n later fine = λ vars k vs queued.
      rebase app role q k held (values_with vs (Guarded (section.Res r)) (Number n)) vs _
      (fine vars k (values_with vs (Guarded (section.Res r)) (Number n))
      (record { ready = queued.ready; timer = queued.timer; handles = queued.handles; out = queued.out }))
      (beside r vs (Number n))
    where
      beside : (r : ℕ) (vs : Values) (content : Content) → SameQueues (values_with vs (Guarded (section.Res r)) content)
          vs
      beside r vs content (section.Res k) queue = absurd queue
      beside r vs content (section.Free k) queue = refl
      beside r vs content (section.Ready k) queue = refl
      beside r vs content section.Timer queue = refl
  assign_fine held (atom.Local l) n later fine = λ vars k vs queued.
      rebase app role q k held (values_with vs (Own l) (Number n)) vs _
      (fine vars k (values_with vs (Own l) (Number n))
      (record { ready = queued.ready; timer = queued.timer; handles = queued.handles; out = queued.out }))
      (λ x queue. refl)

  mutual
    statement_fine : (s : Statement) (n : ℕ) (locked fixed : List ℕ) (outer : ℕ) (later : Later)
        → IsSoundStatement app m n locked fixed s
        → AllByRecursion P (statement_sections app q outer s) → greatest_ceiling app (held_of locked) ≡ outer
        → FineLater (held_of locked) later
        → FineLater (held_of locked) (run app s later)
    statement_fine (Bind x (Calc e)) n locked fixed outer later sound counted same fine = λ vars k vs queued.
        fine (slice_set vars x (value_in vars vs e)) k vs queued
    statement_fine (Bind x (Now at)) n locked fixed outer later sound counted same fine = λ vars k vs queued.
        (queued, tt, tt, (λ y queue. refl), tt, λ time ws good alike. fine (slice_set vars x time) time ws good)
    statement_fine (Bind x (Call s)) n locked fixed outer later sound counted same fine = λ vars k vs queued.
        spawn_fine locked outer (value_in vars vs) s (λ granted. later (slice_set vars x granted)) sound.1 counted same
        (λ granted. fine (slice_set vars x granted)) k vs queued
    statement_fine (Assign x e at) n locked fixed outer later sound counted same fine = λ vars k vs queued.
        assign_fine (held_of locked) x (value_in vars vs e) later fine vars k vs queued
    statement_fine (Branch e first second) n locked fixed outer later sound counted same fine = λ vars k vs queued.
        elim (value_in vars vs e == 0) as (λ b. IsFine app role q k (held_of locked) vs
        (if b then run_block app second later vars vs else run_block app first later vars vs)) [
          | true ↦ block_fine second (n + variables first) locked fixed outer later sound.2
              (all_behind P (block_sections app q outer first) (block_sections app q outer second) counted)
              same fine vars
              k vs queued
          | false ↦ block_fine first n locked fixed outer later sound.1
              (all_front P (block_sections app q outer first) (block_sections app q outer second) counted)
              same fine vars
              k vs queued
        ]
    statement_fine (Repeat x first last turn) n locked fixed outer later sound counted same fine =
        turns_fine (held_of locked) _ x first (run_block app turn) later
        (λ next good. block_fine turn (n + 1) locked (x ∷ fixed) outer next sound.4 counted same good) fine
    statement_fine (Locked r inner at) n locked fixed outer later sound counted same fine = λ vars.
        act_fine app role q (held_of locked) (Enters (section.Res r) (lock_cost (block_cost (cost_measure app) inner)))
        _
        (entered (held_of locked) outer (section.Res r) _ same sound.0.within (λ is. sound.0.once (once_in locked r is))
        counted.0) (tt, λ k vs. tt)
        (block_fine inner n (r ∷ locked) fixed (max outer (ceiling app (section.Res r))) _ sound.1 counted.1
        (omega arith)
        (λ vars. act_fine app role q (section.Res r ∷ held_of locked) (Leaves (section.Res r)) (later vars)
        (held_of locked, refl) (tt, λ k vs. tt) (fine vars)) vars)
    statement_fine (Emit e) n locked fixed outer later sound counted same fine = λ vars k vs queued.
        act_fine app role q (held_of locked) (Emits (value_in vars vs e)) (later vars) tt (tt, λ k vs. tt)
        (fine vars) k vs queued
    statement_fine (Pend i) n locked fixed outer later sound counted same fine = λ vars.
        act_fine app role q (held_of locked) (Posts (or_zero (irq_number app i))) (later vars) tt (tt, λ k vs. tt)
        (fine vars)
    statement_fine (Spawns s) n locked fixed outer later sound counted same fine = λ vars k vs queued.
        spawn_fine locked outer (value_in vars vs) s (λ granted. later vars) sound counted same
        (λ granted. fine vars) k vs
        queued

    pub block_fine : (b : Block) (n : ℕ) (locked fixed : List ℕ) (outer : ℕ) (later : Later)
        → IsSoundBlock app m n locked fixed b
        → AllByRecursion P (block_sections app q outer b) → greatest_ceiling app (held_of locked) ≡ outer
        → FineLater (held_of locked) later
        → FineLater (held_of locked) (run_block app b later)
    block_fine Empty n locked fixed outer later sound counted same fine = fine
    block_fine (Then s rest) n locked fixed outer later sound counted same fine =
        statement_fine s n locked fixed outer (run_block app rest later) sound.0
        (all_front P (statement_sections app q outer s) (block_sections app q outer rest) counted) same
        (block_fine rest (n + variables_in s) locked fixed outer later sound.1
        (all_behind P (statement_sections app q outer s) (block_sections app q outer rest) counted) same fine)

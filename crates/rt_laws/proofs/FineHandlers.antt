-- `init`, `idle` and every handler of an accepted application are well formed in what they do.
use Rattle.std.proofs.Common.{◌≡◌, ℕ, zero, suc, ◌+◌, ◌≤◌, ◌<◌, ◌^◌, ◌==◌, nat_lt, nat_le, Bool, true, false, ◌&&◌}
use Rattle.std.proofs.Common.{if◌then◌else◌, List, [], ◌∷◌, ◌++◌, replicate, slice_get, Option, Some, None, option_map}
use Rattle.std.proofs.Common.{IfSome, refl, sym, ap, subst, ◌∙◌, arith, eq-eqb}
use Rattle.std.specs.List.{AllByRecursion, list_any}
use Rattle.std.proofs.lemmas.Bool.{eqb-true, leb-true, lt-ltb, le-leb}
use Rattle.std.proofs.lemmas.Option.{same_Some, none-some}
use Rattle.rt_lemmas.proofs.Bools.{and_parts, and_both}
use Rattle.rt_lemmas.proofs.Lists.{all_front, all_behind, find_has, AreFrom, all_from, first_from, rest_from}
use Rattle.rt_lemmas.proofs.Membership.{all_append, all_flat_map, any_one}
use Rattle.rt_ids.specs.Lists.{is_some_and, then_from, is_empty}
use Rattle.rt_ids.specs.Choice.{IsIn}
use Rattle.rt_actions.specs.Location.{Guarded}
use Rattle.rt_actions.specs.Content.{Message, Armed, Values, messages, delays, least}
use Rattle.rt_actions.specs.Action.{Action, Enters, Leaves, Posts, Starts, Frees, Fires, SetsAlarm, Ends, Returns}
use Rattle.rt_ids.specs.declared.ids.BodyId.TheVariants as body
use Rattle.rt_ids.specs.declared.ids.Section.{Section}
use Rattle.rt_ids.specs.declared.ids.Section.TheVariants as section
use Rattle.rt_ids.proofs.Greatest.{greatest_has}
use Rattle.rt_ids.proofs.Lists.{some_passing}
use Rattle.rt_app.specs.declared.costs.TheConstants.{FREE_COST, READY_COST}
use Rattle.rt_app.specs.declared.app.Mono.{Mono}
use Rattle.rt_app.specs.Tree.{Body, Task, App}
use Rattle.rt_app.specs.Variables.{variables}
use Rattle.rt_app.specs.Bodies.{Member, task_priority}
use Rattle.rt_app.specs.Level.{is_software, is_of_level, is_armed, levels}
use Rattle.rt_app.specs.Ceiling.{ceiling}
use Rattle.rt_app.specs.BodyCost.{dispatcher_section_cost, timer_section_cost}
use Rattle.rt_app.specs.Waiting.{CriticalSection, waiting_bound, holds_off, sections, block_sections, idle_sections}
use Rattle.rt_app.specs.Waiting.{tasks_sections, dispatcher_sections, moved_sections, handler_sections, ready_section}
use Rattle.rt_app.specs.Waiting.{free_section}
use Rattle.rt_app.specs.Handlers.{Service, services, dispatcher_of, bound_service, task_services, dispatcher_service}
use Rattle.rt_app.specs.Handlers.{timer_service}
use Rattle.rt_app.specs.Sending.{Rest, act, act_all, ready_actions, dispatcher_number}
use Rattle.rt_app.specs.Doings.{nothing, declared_doing, init_doing, idle_doing, task_doing, start_doing}
use Rattle.rt_app.specs.Doings.{dispatcher_doing, due, fire_doing, timer_doing, handler_doing}
use Rattle.rt_app.specs.Accepted.{IsAccepted}
use Rattle.rt_app.proofs.Sound.{accepted_are_sound}
use Rattle.rt_app.proofs.SoundCeilings.{those_all}
use Rattle.rt_app.proofs.TimerCeilings.{timer_within, mover_within}
use Rattle.rt_laws.specs.State.{Role, Init, Idle, Serving}
use Rattle.rt_laws.proofs.Fine.{OfLevel, IsTimedOne, Queued, IsCounted, EntersFine, IsFine, FineRest, AllFine}
use Rattle.rt_laws.proofs.Fine.{first_fine, act_fine, acts_fine}
use Rattle.rt_laws.proofs.FineBodies.{priority_is_of, block_fine}

pub all_in : {X : Type 0} (P : X → Type 0) (xs : List X) → ((x : X) → IsIn xs x → P x) → AllByRecursion P xs
all_in P [] each = tt
all_in P (x ∷ xs) each = (each x (0, refl), all_in P xs (λ y is. each y (suc is.0, is.1)))

all_unit : {X : Type 0} (xs : List X) → AllByRecursion (λ x. Unit {0}) xs
all_unit [] = tt
all_unit (x ∷ xs) = (tt, all_unit xs)

all_hold : (a b c : Bool) → a ≡ true → b ≡ true → c ≡ true → (a && b && c) ≡ true
all_hold a b c x y z = rw (x, y, z) refl

of_level : (p : ℕ) (t : Task) → is_of_level p t ≡ true → (is_software t ≡ true) × (t.priority ≡ p)
of_level p t is = let parts = and_parts (is_software t) (t.priority == p) is in (parts.0, eqb-true t.priority p parts.1)

abbrev task_member : ℕ → Task → Member
task_member n t = record { id = body.Task n; priority = t.priority; args = t.args; body = t.body }

abbrev thread_member : Body → Member
thread_member b = record { id = body.Idle; priority = 0; args = 0; body = b }

abbrev init_member : Body → Member
init_member b = record { id = body.Init; priority = 0; args = 0; body = b }

-- where something holds of each armed message, it holds of one that is due
pub due_holds : (app : App) (P : Armed → Type 0) (time : ℕ) (armed : List Armed) → AllByRecursion P armed
    → IfSome (due app time armed) P
due_holds app P time armed all = by (least armed) (λ a is. find_has P _ armed a all is)
  where
    by : (o : Option Armed) → ((a : Armed) → o ≡ Some a → P a)
        → IfSome (then_from o (λ a. if nat_le a.instant time then Some a else None)) P
    by None each = tt
    by (Some a) each =
        elim (nat_le a.instant time) as (λ b. IfSome (if b then Some a else None) P) [ true ↦ each a refl | false ↦ tt ]

module _ (app : App) where
  -- no section costs more than the bound of a priority that it may hold off
  abbrev Bounded : CriticalSection → Type 0
  Bounded s = (p : ℕ) → s.priority < p → s.outer < p → p ≤ s.ceiling → s.cost ≤ waiting_bound app p

  all_bounded : AllByRecursion Bounded (sections app)
  all_bounded = all_in Bounded (sections app)
      (λ s is p above outer within. greatest_has (λ s. s.cost) (holds_off p) (sections app) is.0 s is.1
      (all_hold (nat_lt s.priority p) (nat_lt s.outer p) (nat_le p s.ceiling) (lt-ltb s.priority p above)
      (lt-ltb s.outer p outer) (le-leb p s.ceiling within)))

  abbrev on_handlers : List CriticalSection
  on_handlers = handler_sections app app.mono

  idle_bounded : AllByRecursion Bounded (idle_sections app app.idle)
  idle_bounded = all_front Bounded (idle_sections app app.idle)
      (tasks_sections app 0 app.tasks ++ on_handlers) all_bounded

  handlers_bounded : AllByRecursion Bounded on_handlers
  handlers_bounded = all_behind Bounded (tasks_sections app 0 app.tasks) on_handlers
      (all_behind Bounded (idle_sections app app.idle) (tasks_sections app 0 app.tasks ++ on_handlers) all_bounded)

  abbrev of_task : ℕ → Task → List CriticalSection
  of_task n t = block_sections app t.priority 0 t.body.block ++ dispatcher_sections app n t

  task_bounded : (n k : ℕ) (ts : List Task) (t : Task) → AllByRecursion Bounded (tasks_sections app n ts)
      → slice_get ts k ≡ Some t → AllByRecursion Bounded (of_task (n + k) t)
  task_bounded n k [] t all at = absurd (none-some t at)
  task_bounded n zero (u ∷ ts) t all at =
      let e : n ≡ n + 0 = omega arith in
      subst (λ v. AllByRecursion Bounded (of_task (n + 0) v)) (same_Some u t at)
      (subst (λ i. AllByRecursion Bounded (of_task i u)) e
      (all_front Bounded (of_task n u) (tasks_sections app (n + 1) ts) all))
  task_bounded n (suc k) (u ∷ ts) t all at =
      let e : n + 1 + k ≡ n + suc k = omega arith in
      subst (λ i. AllByRecursion Bounded (of_task i t)) e
      (task_bounded (n + 1) k ts t (all_behind Bounded (of_task n u) (tasks_sections app (n + 1) ts) all) at)

  bounded_at : (n : ℕ) (t : Task) → slice_get app.tasks n ≡ Some t → AllByRecursion Bounded (of_task n t)
  bounded_at n t at =
      let e : 0 + n ≡ n = omega arith in
      subst (λ i. AllByRecursion Bounded (of_task i t)) e
      (task_bounded 0 n app.tasks t (all_front Bounded (tasks_sections app 0 app.tasks) on_handlers
      (all_behind Bounded (idle_sections app app.idle)
      (tasks_sections app 0 app.tasks ++ on_handlers) all_bounded)) at)

  abbrev dispatched : ℕ → Task → List CriticalSection
  dispatched n t = ready_section app t.priority 0 t.priority (dispatcher_section_cost app t.priority)
      ∷ free_section app t.priority 0 n ∷ []

  dispatcher_bounded : (n : ℕ) (t : Task) → slice_get app.tasks n ≡ Some t → is_software t ≡ true
      → AllByRecursion Bounded (dispatched n t)
  dispatcher_bounded n t at software =
      subst (λ b. AllByRecursion Bounded (if b then dispatched n t else [])) software
      (all_behind Bounded (block_sections app t.priority 0 t.body.block) (dispatcher_sections app n t)
      (bounded_at n t at))

  abbrev moved : ℕ → ℕ → Task → List CriticalSection
  moved priority n t = if is_software t && is_armed app n then ready_section app priority 0 t.priority READY_COST
      ∷ [] else []

  moved_bounded : (priority n k : ℕ) (ts : List Task) (t : Task) → AllByRecursion Bounded
      (moved_sections app priority n ts)
      → slice_get ts k ≡ Some t → AllByRecursion Bounded (moved priority (n + k) t)
  moved_bounded priority n k [] t all at = absurd (none-some t at)
  moved_bounded priority n zero (u ∷ ts) t all at =
      let e : n ≡ n + 0 = omega arith in
      subst (λ v. AllByRecursion Bounded (moved priority (n + 0) v)) (same_Some u t at)
      (subst (λ i. AllByRecursion Bounded (moved priority i u)) e
      (all_front Bounded (moved priority n u) (moved_sections app priority (n + 1) ts) all))
  moved_bounded priority n (suc k) (u ∷ ts) t all at =
      let e : n + 1 + k ≡ n + suc k = omega arith in
      subst (λ i. AllByRecursion Bounded (moved priority i t)) e
      (moved_bounded priority (n + 1) k ts t
      (all_behind Bounded (moved priority n u) (moved_sections app priority (n + 1) ts) all) at)

  -- a counted section that stands in no other counts for the waiting bound at its body's priority
  count : (role : Role) (q outer c cost : ℕ) → Bounded
      (record { priority = q; outer = outer; ceiling = c; cost = cost })
      → IsCounted app role q outer c cost
  count role q outer c cost bounded p above top below within = bounded p above below within

  enters_alone : (irq q : ℕ) (x : Section) (cost : ℕ) → q ≤ ceiling app x
      → Bounded (record { priority = q; outer = 0; ceiling = ceiling app x; cost = cost })
      → EntersFine app (Serving irq) q [] x cost
  enters_alone irq q x cost within bounded = record {
    within = within;
    once = λ is. none-some x is.1;
    counted = count (Serving irq) q 0 (ceiling app x) cost bounded;
  }

module _ (app : App) (accepted : IsAccepted app) where
  pub init_fine : FineRest app Init (2 ^ app.bits) [] (init_doing app)
  init_fine = go app.init refl
    where
      last : FineRest app Init (2 ^ app.bits) [] (act (Ends body.Init) nothing)
      last = act_fine app Init (2 ^ app.bits) [] (Ends body.Init) nothing (refl, refl) (tt, λ k vs. tt)
          (λ k vs queued. tt)

      go : (o : Option Body) → app.init ≡ o
          → FineRest app Init (2 ^ app.bits) [] (declared_doing app o [] (act (Ends body.Init) nothing))
      go None is = last
      go (Some b) is =
          block_fine app Init (2 ^ app.bits) (init_member b) (λ s. Unit {0}) (λ c h. tt)
          (λ outer c cost u p above top below within. absurd (omega arith))
          b.block 0 [] [] 0 (λ vars. act (Ends body.Init) nothing)
          ((accepted_are_sound app accepted).bodies body.Init (init_member b) (ap (option_map init_member) is))
          (all_unit (block_sections app (2 ^ app.bits) 0 b.block)) refl (λ vars. last)
          ([] ++ replicate (variables b.block) 0)

  pub idle_fine : FineRest app Idle 0 [] (idle_doing app)
  idle_fine = go app.idle refl (idle_bounded app)
    where
      last : FineRest app Idle 0 [] (act (Ends body.Idle) nothing)
      last = act_fine app Idle 0 [] (Ends body.Idle) nothing (refl, refl) (tt, λ k vs. tt) (λ k vs queued. tt)

      go : (o : Option Body) → app.idle ≡ o → AllByRecursion (Bounded app) (idle_sections app o)
          → FineRest app Idle 0 [] (declared_doing app o [] (act (Ends body.Idle) nothing))
      go None is counted = last
      go (Some b) is counted =
          block_fine app Idle 0 (thread_member b) (Bounded app) (λ c h. h) (count app Idle 0)
          b.block 0 [] [] 0 (λ vars. act (Ends body.Idle) nothing)
          ((accepted_are_sound app accepted).bodies body.Idle (thread_member b) (ap
          (option_map thread_member) is)) counted
          refl (λ vars. last)
          ([] ++ replicate (variables b.block) 0)

  module _ (irq : ℕ) where
    abbrev FineServing : ℕ → List Section → Rest → Type 0
    FineServing q held rest = FineRest app (Serving irq) q held rest

    body_fine : (n : ℕ) (t : Task) → slice_get app.tasks n ≡ Some t → (args : List ℕ) (rest : Rest)
        → FineServing t.priority [] rest → FineServing t.priority [] (task_doing app n args rest)
    body_fine n t at args rest fine =
        subst (λ o. FineServing t.priority [] (declared_doing app (then_from o (λ t. Some t.body)) args rest)) (sym at)
        (block_fine app (Serving irq) t.priority (task_member n t) (Bounded app) (λ c h. h)
        (count app (Serving irq) t.priority) t.body.block t.args [] [] 0 (λ vars. rest)
        ((accepted_are_sound app accepted).bodies (body.Task n) (task_member n t) (ap (option_map (task_member n)) at))
        (all_front (Bounded app) (block_sections app t.priority 0 t.body.block) (dispatcher_sections app n t)
        (bounded_at app n t at)) refl (λ vars. fine) (args ++ replicate (variables t.body.block) 0))

    runs_fine : (n : ℕ) (t : Task) → slice_get app.tasks n ≡ Some t
        → FineServing t.priority [] (task_doing app n [] (act Returns nothing))
    runs_fine n t at =
        body_fine n t at [] (act Returns nothing)
        (act_fine app (Serving irq) t.priority [] Returns nothing (irq, refl, refl) (tt, λ k vs. tt)
        (λ k vs queued. tt))

    ends_fine : (q n : ℕ) → FineServing q [] (act_all (Ends (body.Task n) ∷ Returns ∷ []) nothing)
    ends_fine q n = acts_fine app (Serving irq) q [] (Ends (body.Task n) ∷ Returns ∷ []) nothing
        (refl, (tt, λ k vs. tt), ((irq, refl, refl), (tt, λ k vs. tt), tt)) (λ k vs queued. tt)

    abbrev behind : Message → Rest
    behind m = task_doing app m.task m.args (act_all (Ends (body.Task m.task) ∷ Returns ∷ []) nothing)

    -- the oldest message is started
    start_fine : (p : ℕ) (ms : List Message) → AllByRecursion (OfLevel app p) ms → (k : ℕ) (vs : Values) → Queued app vs
        → messages (vs (Guarded (section.Ready p))) ≡ ms
        → IsFine app (Serving irq) p k (section.Ready p ∷ []) vs (start_doing app p ms vs)
    start_fine p [] all k vs queued there = acts_fine app (Serving irq) p (section.Ready p ∷ [])
        (Leaves (section.Ready p) ∷ Returns ∷ []) nothing
        (([], refl), (tt, λ k vs. tt), ((irq, refl, refl), (tt, λ k vs. tt), tt)) (λ k vs queued. tt)
        k vs queued
    start_fine p (m ∷ more) all k vs queued there =
        let found = some_passing (is_of_level p) (slice_get app.tasks m.task) all.0 in
        one found.0 found.1 (of_level p found.0 found.2)
      where
        one : (t : Task) → slice_get app.tasks m.task ≡ Some t → (is_software t ≡ true) × (t.priority ≡ p)
            → IsFine app (Serving irq) p k (section.Ready p ∷ []) vs (start_doing app p (m ∷ more) vs)
        one t at is =
            let as_declared : task_priority app m.task ≡ t.priority = priority_is_of app m.task t at in
            let least : t.priority ≤ ceiling app (section.Free m.task) = omega arith in
            let enters : EntersFine app (Serving irq) p [] (section.Free m.task) FREE_COST =
            subst (λ q. EntersFine app (Serving irq) q [] (section.Free m.task) FREE_COST) is.1
            (enters_alone app irq t.priority (section.Free m.task) FREE_COST least
            (dispatcher_bounded app m.task t at is.0).1.0) in
            let later : FineServing p [] (behind m) =
            subst (λ q. FineServing q [] (behind m)) is.1
            (body_fine m.task t at m.args _ (ends_fine t.priority m.task)) in
            let gives_back : List Action =
            Leaves (section.Ready p) ∷ Enters (section.Free m.task) FREE_COST ∷ Frees m.task ∷ Leaves
            (section.Free m.task) ∷ [] in
            let fine : AllFine app (Serving irq) p (section.Ready p ∷ []) gives_back = (
              ([], refl),
              (tt, λ k vs. tt),
              (enters, (tt, λ k vs. tt), (tt, ((0, refl), λ k vs. tt), (([], refl), (tt, λ k vs. tt), tt))),
            ) in
            elim (is_empty more) as (λ b. IsFine app (Serving irq) p k (section.Ready p ∷ []) vs
            (act_all (Starts p m ∷ (if b then [] else Posts (dispatcher_number app p) ∷ []) ++ gives_back)
            (behind m) vs)) [
              | true ↦ first_fine app (Serving irq) p (section.Ready p ∷ []) (Starts p m)
                  (act_all gives_back (behind m)) tt (0, refl)
                  (acts_fine app (Serving irq) p (section.Ready p ∷ []) gives_back (behind m) fine later) k vs queued
                  (more, there)
              | false ↦ first_fine app (Serving irq) p (section.Ready p ∷ []) (Starts p m)
                  (act_all (Posts (dispatcher_number app p) ∷ gives_back) (behind m)) tt (0, refl)
                  (acts_fine app (Serving irq) p (section.Ready p ∷ []) (Posts (dispatcher_number app p) ∷ gives_back)
                  (behind m)
                  (tt, (tt, λ k vs. tt), fine) later) k vs queued (more, there)
            ]

    dispatcher_fine : (p : ℕ) → list_any (is_of_level p) app.tasks ≡ true → FineServing p [] (dispatcher_doing app p)
    dispatcher_fine p some =
        let found = any_one (is_of_level p) app.tasks some in
        let is = of_level p found.1 found.3 in
        let least : p ≤ ceiling app (section.Ready p) = omega arith in
        act_fine app (Serving irq) p [] (Enters (section.Ready p) (dispatcher_section_cost app p))
        (λ vs. start_doing app p (messages (vs (Guarded (section.Ready p)))) vs)
        (subst (λ q. q ≤ ceiling app (section.Ready q)
        → EntersFine app (Serving irq) q [] (section.Ready q) (dispatcher_section_cost app q)) is.1
        (λ within. enters_alone app irq found.1.priority (section.Ready found.1.priority)
        (dispatcher_section_cost app found.1.priority) within
        (dispatcher_bounded app found.0 found.1 found.2 is.0).0) least) (tt, λ k vs. tt)
        (λ k vs queued. start_fine p (messages (vs (Guarded (section.Ready p)))) (queued.ready p) k vs queued refl)

    -- a due message becomes ready
    fire_fine : (mono : Mono) → app.mono ≡ Some mono → (o : Option Armed) → IfSome o (IsTimedOne app)
        → (k : ℕ) (vs : Values)
        → Queued app vs → due app k (delays (vs (Guarded section.Timer))) ≡ o
        → IsFine app (Serving irq) mono.priority k (section.Timer ∷ []) vs (fire_doing app o vs)
    fire_fine mono is None timed k vs queued there =
        acts_fine app (Serving irq) mono.priority (section.Timer ∷ [])
        (SetsAlarm ∷ Leaves section.Timer ∷ Returns ∷ []) nothing
        (tt, (tt, λ k vs. tt), (([], refl), (tt, λ k vs. tt), ((irq, refl, refl), (tt, λ k vs. tt), tt)))
        (λ k vs queued. tt) k vs queued
    fire_fine mono is (Some a) timed k vs queued there =
        let due_now = due_is k (delays (vs (Guarded section.Timer))) a there in
        let found = some_passing is_software (slice_get app.tasks a.message.task) timed.1 in
        let n : ℕ = a.message.task in
        let p : ℕ = task_priority app n in
        let as_declared : p ≡ found.0.priority = priority_is_of app n found.0 found.1 in
        let of_it : OfLevel app p a.message = ap (is_some_and (is_of_level p)) found.1
        ∙ and_both (is_software found.0) (found.0.priority == p) found.2
        (eq-eqb found.0.priority p (sym as_declared)) in
        let least : mono.priority ≤ ceiling app (section.Ready p) =
        mover_within app mono is n p of_it timed.0 in
        let bounded : AllByRecursion (Bounded app) (moved app mono.priority n found.0) =
        subst (λ i. AllByRecursion (Bounded app) (moved app mono.priority i found.0)) (zero_plus n)
        (moved_bounded app mono.priority 0 n app.tasks found.0
        (subst (λ o. AllByRecursion (Bounded app) (handler_sections app o)) is (handlers_bounded app)).1 found.1) in
        let ready : AllByRecursion (Bounded app) (ready_section app mono.priority 0 found.0.priority READY_COST ∷ []) =
        subst (λ b. AllByRecursion (Bounded app)
        (if b then ready_section app mono.priority 0 found.0.priority READY_COST ∷ [] else []))
        (and_both (is_software found.0) (is_armed app n) found.2 timed.0) bounded in
        let enters : EntersFine app (Serving irq) mono.priority [] (section.Ready p) READY_COST =
        enters_alone app irq mono.priority (section.Ready p) READY_COST least
        (subst (λ q. Bounded app (ready_section app mono.priority 0 q READY_COST)) (sym as_declared) ready.0) in
        let behind_it : List Action = SetsAlarm ∷ Leaves section.Timer ∷ ready_actions app p a.message ++ Returns
        ∷ [] in
        first_fine app (Serving irq) mono.priority (section.Timer ∷ []) (Fires a.message)
        (act_all behind_it nothing) tt (0, refl)
        (acts_fine app (Serving irq) mono.priority (section.Timer ∷ []) behind_it nothing (
          tt,
          (tt, λ k vs. tt),
          (
            ([], refl),
            (tt, λ k vs. tt),
            (
              enters,
              (tt, λ k vs. tt),
              (
                of_it,
                ((0, refl), λ k vs. tt),
                (tt, (tt, λ k vs. tt), (([], refl), (tt, λ k vs. tt), ((irq, refl, refl), (tt, λ k vs. tt), tt))),
              ),
            ),
          ),
        )
        (λ k vs queued. tt)) k vs queued (a, due_now.0, refl, due_now.1)
      where
        zero_plus : (n : ℕ) → 0 + n ≡ n
        zero_plus n = omega arith

        due_is : (time : ℕ) (armed : List Armed) (a : Armed) → due app time armed ≡ Some a
            → (least armed ≡ Some a) × (a.instant ≤ time)
        due_is time armed a is = of (least armed) is
          where
            of : (o : Option Armed) → then_from o (λ c. if nat_le c.instant time then Some c else None) ≡ Some a
                → (o ≡ Some a) × (a.instant ≤ time)
            of None h = absurd (none-some a h)
            of (Some c) h = by (nat_le c.instant time) refl h
              where
                by : (b : Bool) → nat_le c.instant time ≡ b → (if b then Some c else None) ≡ Some a
                    → (Some c ≡ Some a) × (a.instant ≤ time)
                by true test same = (
                  same,
                  subst (λ (d : Armed). d.instant ≤ time) (same_Some c a same)
                      (leb-true c.instant time test),
                )
                by false test same = absurd (none-some a same)

    timer_fine : (mono : Mono) → app.mono ≡ Some mono → FineServing mono.priority [] (timer_doing app)
    timer_fine mono is =
        let least : mono.priority ≤ ceiling app section.Timer = timer_within app mono is in
        let enters : EntersFine app (Serving irq) mono.priority [] section.Timer (timer_section_cost app) =
        enters_alone app irq mono.priority section.Timer (timer_section_cost app) least
        (subst (λ o. AllByRecursion (Bounded app) (handler_sections app o)) is (handlers_bounded app)).0 in
        λ n vs queued. (
          queued,
          enters,
          tt,
          (λ x queue. refl),
          tt,
          λ k ws good same. (
            good,
            tt,
            tt,
            (λ x queue. refl),
            tt,
            λ time xs r alike. fire_fine mono is (due app time (delays (xs (Guarded section.Timer))))
                (due_holds app (IsTimedOne app) time (delays (xs (Guarded section.Timer))) r.timer) time xs r refl,
          ),
        )

    -- each handler, at the priority that it is served at
    abbrev FineService : Service → Type 0
    FineService v = FineServing v.priority [] (handler_doing app v.handler)

    tasks_fine : (n : ℕ) (ts : List Task) → AreFrom app.tasks n ts → AllByRecursion FineService (task_services n ts)
    tasks_fine n [] from = tt
    tasks_fine n (t ∷ ts) from =
        all_append FineService (bound_service n t t.binds) (task_services (n + 1) ts)
        (bound t.binds (runs_fine n t (first_from app.tasks n t ts from)))
        (tasks_fine (n + 1) ts (rest_from app.tasks n t ts from))
      where
        bound : (o : Option ℕ) → FineServing t.priority [] (task_doing app n [] (act Returns nothing))
            → AllByRecursion FineService (bound_service n t o)
        bound None fine = tt
        bound (Some i) fine = (fine, tt)

    levels_fine : AllByRecursion (λ p. AllByRecursion FineService (dispatcher_service p (dispatcher_of app p)))
        (levels app)
    levels_fine =
        those_all (λ p. AllByRecursion FineService (dispatcher_service p (dispatcher_of app p)))
        (λ p. list_any (is_of_level p) app.tasks) _
        (λ p below some. by (dispatcher_of app p) p (dispatcher_fine p some))
      where
        by : (o : Option ℕ) (p : ℕ) → FineServing p [] (dispatcher_doing app p)
            → AllByRecursion FineService (dispatcher_service p o)
        by None p fine = tt
        by (Some i) p fine = (fine, tt)

    times_fine : (o : Option Mono) → app.mono ≡ o → AllByRecursion FineService (timer_service o)
    times_fine None is = tt
    times_fine (Some mono) is = (timer_fine mono is, tt)

    pub services_fine : AllByRecursion FineService (services app)
    services_fine =
        all_append FineService (task_services 0 app.tasks) _ (tasks_fine 0 app.tasks (all_from app.tasks))
        (all_append FineService _ (timer_service app.mono)
        (all_flat_map FineService (λ p. dispatcher_service p (dispatcher_of app p)) (levels app) levels_fine)
        (times_fine app.mono refl))

-- The waits by cases and with the tables are the greatest costs of the sections that hold a priority off.
use Rattle.std.proofs.Common.{◌≡◌, ℕ, ◌+◌, ◌<◌, ◌≤◌, ◌⊎◌, ◌==◌, nat_lt, nat_le, max, Bool, true, false, not}
use Rattle.std.proofs.Common.{◌&&◌, if◌then◌else◌, cond, List, [], ◌∷◌, ◌++◌, map, filter, get_or, slice_get, Option}
use Rattle.std.proofs.Common.{Some, None, option_map, refl, sym, ap, ◌∙◌, arith, inl, inr, eq-eqb, ⊎_elim}
use Rattle.std.specs.List.{list_any}
use Rattle.std.proofs.lemmas.List.{map-append, get_or_past}
use Rattle.std.proofs.lemmas.Bool.{cases_order}
use Rattle.std.proofs.lemmas.Bool.Decides.{nat_tests}
use Rattle.rt_lemmas.proofs.Lists.{map_alike, AreFrom, all_from, first_from, rest_from}
use Rattle.rt_lemmas.proofs.Bools.{or_left, or_right, or_cases, and_right, and_both}
use Rattle.rt_lemmas.proofs.Membership.{any_passes}
use Rattle.rt_lemmas.proofs.Numbers.{max_alone, max_zero}
use Rattle.rt_ids.specs.Lists.{greatest, or_zero}
use Rattle.rt_ids.specs.declared.ids.BodyId.TheVariants as body
use Rattle.rt_ids.specs.declared.ids.Section.TheVariants as section
use Rattle.rt_app.specs.declared.app.Mono.{Mono}
use Rattle.rt_app.specs.declared.bounds.Wait.{Wait}
use Rattle.rt_app.specs.declared.costs.TheConstants.{FREE_COST, READY_COST, PRIORITIES}
use Rattle.rt_app.specs.Tree.{Spawn, Soon, After, Cancel, Move, Value, Calc, Now, Call, Statement, Bind, Assign, Branch}
use Rattle.rt_app.specs.Tree.{Repeat, Locked, Emit, Pend, Spawns, Block, Empty, Then, Body, Task, App}
use Rattle.rt_app.specs.Bodies.{Member, task_priority}
use Rattle.rt_app.specs.Level.{is_software, is_of_level, is_armed}
use Rattle.rt_app.specs.Stack.{has_handler, is_timed_at}
use Rattle.rt_app.specs.Ceiling.{Ceilings, ceilings, ceiling}
use Rattle.rt_app.specs.Cost.{Measure, lock_cost, block_cost}
use Rattle.rt_app.specs.BodyCost.{cost_measure, dispatcher_section_cost, timer_section_cost, handle_section_cost}
use Rattle.rt_app.specs.Sound.{IsSoundSpawn, IsSoundValue, IsSoundStatement, IsSoundBlock}
use Rattle.rt_app.specs.Acceptance.{IsSound}
use Rattle.rt_app.specs.Waiting.{CriticalSection, spawn_sections, value_sections, statement_sections, block_sections}
use Rattle.rt_app.specs.Waiting.{idle_sections, dispatcher_sections, tasks_sections, moved_sections, handler_sections}
use Rattle.rt_app.specs.Waiting.{sections, holds_off, waiting_bound, free_section, ready_section}
use Rattle.rt_frames.specs.Inside.Flags.{HasFlags}
use Rattle.rt_frames.specs.Inside.Waits.{shared_ceiling, free_at, ready_at, if_reaches, spawn_wait, value_wait}
use Rattle.rt_frames.specs.Inside.Waits.{statement_wait, block_wait, idle_wait, dispatcher_wait, task_wait, tasks_wait}
use Rattle.rt_frames.specs.Inside.Waits.{move_wait, moves_wait, timer_wait, wait_within}
use Rattle.rt_frames.specs.Inside.Bounded.{wait_of}
use Rattle.rt_ids.proofs.Greatest.{greatest_append}
use Rattle.rt_frames.proofs.Tables.{shared_at_is, free_at_is, ready_at_is, timer_at_is}

-- a number where a test holds, and else 0
abbrev counted : Bool → ℕ → ℕ
counted b n = if b then n else 0

counted_none : (b : Bool) → 0 ≡ counted b 0
counted_none true = refl
counted_none false = refl

both_counted : (b : Bool) (x y : ℕ) → max (counted b x) (counted b y) ≡ counted b (max x y)
both_counted true x y = refl
both_counted false x y = refl

counted_and : (b d : Bool) (n : ℕ) → counted (b && d) n ≡ counted b (if d then n else 0)
counted_and true d n = refl
counted_and false d n = refl

-- what sections cost that hold a priority off
abbrev amount : ℕ → CriticalSection → ℕ
amount p s = counted (holds_off p s) s.cost

abbrev most : ℕ → List CriticalSection → ℕ
most p cs = greatest (map (amount p) cs)

most_append : (p : ℕ) (xs ys : List CriticalSection) → most p (xs ++ ys) ≡ max (most p xs) (most p ys)
most_append p xs ys = ap greatest (map-append (amount p) xs ys) ∙ greatest_append (map (amount p) xs)
    (map (amount p) ys)

kept : (b : Bool) (n : ℕ) (s : CriticalSection) (cs : List CriticalSection) → n ≡ greatest (map (λ x. x.cost) cs)
    → max (counted b s.cost) n ≡ greatest (map (λ x. x.cost) (cond b (s ∷ cs) cs))
kept true n s cs h = ap (max s.cost) h
kept false n s cs h = omega (arith, h)

most_is : (p : ℕ) (cs : List CriticalSection) → most p cs ≡ greatest (map (λ s. s.cost) (filter (holds_off p) cs))
most_is p [] = refl
most_is p (s ∷ cs) = kept (holds_off p s) (most p cs) s (filter (holds_off p) cs) (most_is p cs)

-- whether sections of a priority, inside sections of ceilings up to a number, can hold a priority off
abbrev can : ℕ → ℕ → ℕ → Bool
can p priority outer = nat_lt priority p && nat_lt outer p

-- one section, whose ceiling a table has
one_at : (p priority outer c k d : ℕ) → d ≡ c → amount p
    (record { priority = priority; outer = outer; ceiling = c; cost = k })
    ≡ counted (can p priority outer) (if_reaches p d k)
one_at p priority outer c k d e = counted_and (can p priority outer) (nat_le p c) k
    ∙ ap (λ x. counted (can p priority outer) (if_reaches p x k)) (sym e)

alone_at : (p priority outer c k d : ℕ) → d ≡ c
    → most p (record { priority = priority; outer = outer; ceiling = c; cost = k } ∷ [])
    ≡ counted (can p priority outer) (if_reaches p d k)
alone_at p priority outer c k d e =
    max_zero (amount p (record { priority = priority; outer = outer; ceiling = c; cost = k }))
    ∙ one_at p priority outer c k d e

two_at : (p priority outer a i b j c d : ℕ) → c ≡ a → d ≡ b
    → most p (record { priority = priority; outer = outer; ceiling = a; cost = i }
    ∷ record { priority = priority; outer = outer; ceiling = b; cost = j } ∷ [])
    ≡ counted (can p priority outer) (max (if_reaches p c i) (if_reaches p d j))
two_at p priority outer a i b j c d e f =
    max_alone (amount p (record { priority = priority; outer = outer; ceiling = a; cost = i }))
    (amount p (record { priority = priority; outer = outer; ceiling = b; cost = j }))
    ∙ ap (λ x. max x (amount p (record { priority = priority; outer = outer; ceiling = b; cost = j })))
    (one_at p priority outer a i c e) ∙ ap (max (counted (can p priority outer) (if_reaches p c i)))
    (one_at p priority outer b j d f)
    ∙ both_counted (can p priority outer) (if_reaches p c i) (if_reaches p d j)

joined : (p priority outer : ℕ) (xs ys : List CriticalSection) (i j : ℕ) → most p xs ≡ counted (can p priority outer) i
    → most p ys ≡ counted (can p priority outer) j → most p (xs ++ ys) ≡ counted (can p priority outer) (max i j)
joined p priority outer xs ys i j e f =
    most_append p xs ys ∙ ap (λ x. max x (most p ys)) e ∙ ap (max (counted (can p priority outer) i)) f
    ∙ both_counted (can p priority outer) i j

-- sections inside one of a ceiling
below_both : (a c p : ℕ) → nat_lt (max a c) p ≡ (nat_lt a p && not (nat_le p c))
below_both a c p = grind (arith, nat_tests)

inside : (a b d : Bool) (cost within : ℕ) → max (counted (a && b) (if d then cost else 0))
    (counted (a && (b && not d)) within) ≡ counted (a && b) (if d then cost else within)
inside true true true cost within = omega arith
inside true true false cost within = omega arith
inside true false d cost within = omega arith
inside false b d cost within = omega arith

lock_at : (p priority outer c d cost within : ℕ) (cs : List CriticalSection) → d ≡ c → most p cs
    ≡ counted (can p priority (max outer c)) within
    → most p (record { priority = priority; outer = outer; ceiling = c; cost = cost } ∷ cs)
    ≡ counted (can p priority outer) (if nat_le p d then cost else within)
lock_at p priority outer c d cost within cs e f =
    ap (λ x. max x (most p cs)) (one_at p priority outer c cost c refl)
    ∙ ap (max (counted (can p priority outer) (if_reaches p c cost))) f
    ∙ ap (λ b. max (counted (can p priority outer) (if_reaches p c cost)) (counted (nat_lt priority p && b) within))
    (below_both outer c p)
    ∙ inside (nat_lt priority p) (nat_lt outer p) (nat_le p c) cost within
    ∙ ap (λ x. counted (can p priority outer) (if nat_le p x then cost else within)) (sym e)

-- in no section
outermost : (priority p : ℕ) → can p priority 0 ≡ nat_lt priority p
outermost priority p = grind (arith, nat_tests)

module _ (app : App) (few : (q : ℕ) → list_any (is_of_level q) app.tasks ≡ true → q < PRIORITIES) where
  -- the ready queue of a task's level
  level_at : (n q : ℕ) (t : Task) → slice_get app.tasks n ≡ Some t → is_software t ≡ true → q ≡ t.priority
      → ready_at (ceilings app) q ≡ ceiling app (section.Ready q)
  level_at n q t at soft e =
      let is : list_any (is_of_level q) app.tasks ≡ true = any_passes (is_of_level q) app.tasks n t at
      (and_both (is_software t) (t.priority == q) soft (eq-eqb t.priority q (sym e))) in
      ready_at_is app q (few q is) is

  priority_at : (n : ℕ) (t : Task) → slice_get app.tasks n ≡ Some t → task_priority app n ≡ t.priority
  priority_at n t at = ap (λ (o : Option Task). or_zero (option_map (λ u. u.priority) o)) at

  -- a body, at a priority
  module _ (p : ℕ) (m : Member) (priority : ℕ) where
    spawn_most : (outer : ℕ) (locked : List ℕ) (s : Spawn) → IsSoundSpawn app m locked s
        → most p (spawn_sections app priority outer s) ≡ counted (can p priority outer)
        (spawn_wait app (cost_measure app) (ceilings app) p s)
    spawn_most outer locked (Soon n args at) h =
        two_at p priority outer (ceiling app (section.Free n)) FREE_COST
        (ceiling app (section.Ready (task_priority app n))) READY_COST (free_at (ceilings app) n)
        (ready_at (ceilings app) (task_priority app n))
        (free_at_is app n h.0 h.1.is_there h.1.software)
        (level_at n (task_priority app n) h.0 h.1.is_there h.1.software (priority_at n h.0 h.1.is_there))
    spawn_most outer locked (After word delay n args at) h =
        two_at p priority outer (ceiling app (section.Free n)) FREE_COST (ceiling app section.Timer)
        (timer_section_cost app) (free_at (ceilings app) n) (or_zero (ceilings app).timer)
        (free_at_is app n h.0 h.1.is_there h.1.software) (timer_at_is app h.4.0 h.4.1)
    spawn_most outer locked (Cancel word n handle at) h =
        two_at p priority outer (ceiling app section.Timer) (handle_section_cost app) (ceiling app (section.Free n))
        FREE_COST
        (or_zero (ceilings app).timer) (free_at (ceilings app) n) (timer_at_is app h.1.timed.0 h.1.timed.1)
        (free_at_is app n h.0 h.1.is_there h.1.software)
    spawn_most outer locked (Move word delay n handle at) h =
        alone_at p priority outer (ceiling app section.Timer) (handle_section_cost app) (or_zero (ceilings app).timer)
        (timer_at_is app h.1.timed.0 h.1.timed.1)

    value_most : (outer : ℕ) (locked : List ℕ) (v : Value) → IsSoundValue app m locked v
        → most p (value_sections app priority outer v) ≡ counted (can p priority outer)
        (value_wait app (cost_measure app) (ceilings app) p v)
    value_most outer locked (Calc e) h = counted_none (can p priority outer)
    value_most outer locked (Now at) h = counted_none (can p priority outer)
    value_most outer locked (Call s) h = spawn_most outer locked s h

    mutual
      statement_most : (outer n : ℕ) (locked fixed : List ℕ) (s : Statement) → IsSoundStatement app m n locked fixed s
          → most p (statement_sections app priority outer s) ≡ counted (can p priority outer)
          (statement_wait app (cost_measure app) (ceilings app) p s)
      statement_most outer n locked fixed (Bind x v) h = value_most outer locked v h.1
      statement_most outer n locked fixed (Assign x e at) h = counted_none (can p priority outer)
      statement_most outer n locked fixed (Branch e a b) h =
          joined p priority outer (block_sections app priority outer a) (block_sections app priority outer b)
          (block_wait app (cost_measure app) (ceilings app) p a)
          (block_wait app (cost_measure app) (ceilings app) p b)
          (block_most outer _ locked fixed a h.1) (block_most outer _ locked fixed b h.2)
      statement_most outer n locked fixed (Repeat x first last turn) h = block_most outer _ locked _ turn h.4
      statement_most outer n locked fixed (Locked r inner at) h =
          lock_at p priority outer (ceiling app (section.Res r)) (shared_ceiling (ceilings app) r)
          (lock_cost (block_cost (cost_measure app) inner))
          (block_wait app (cost_measure app) (ceilings app) p inner)
          (block_sections app priority (max outer (ceiling app (section.Res r))) inner)
          (shared_at_is app r h.0.is_there) (block_most (max outer (ceiling app (section.Res r))) _ _ fixed inner
          h.1)
      statement_most outer n locked fixed (Emit e) h = counted_none (can p priority outer)
      statement_most outer n locked fixed (Pend i) h = counted_none (can p priority outer)
      statement_most outer n locked fixed (Spawns s) h = spawn_most outer locked s h

      block_most : (outer n : ℕ) (locked fixed : List ℕ) (b : Block) → IsSoundBlock app m n locked fixed b
          → most p (block_sections app priority outer b) ≡ counted (can p priority outer)
          (block_wait app (cost_measure app) (ceilings app) p b)
      block_most outer n locked fixed Empty h = counted_none (can p priority outer)
      block_most outer n locked fixed (Then s rest) h =
          joined p priority outer (statement_sections app priority outer s) (block_sections app priority outer rest)
          (statement_wait app (cost_measure app) (ceilings app) p s)
          (block_wait app (cost_measure app) (ceilings app) p rest)
          (statement_most outer n locked fixed s h.0) (block_most outer _ locked fixed rest h.1)

  module _ (sound : IsSound app) (p : ℕ) where
    idle_most : (o : Option Body) → app.idle ≡ o → most p (idle_sections app o)
        ≡ idle_wait app (cost_measure app) (ceilings app) p o
    idle_most None e = refl
    idle_most (Some b) e =
        let m : Member = record { id = body.Idle; priority = 0; args = 0; body = b } in
        block_most p m 0 0 0 [] [] b.block (sound.bodies body.Idle m
        (ap (λ (o : Option Body). option_map (λ x. let y : Member =
        record { id = body.Idle; priority = 0; args = 0; body = x } in y) o) e))
        ∙ ap (λ x. counted x (block_wait app (cost_measure app) (ceilings app) p b.block)) (outermost 0 p)

    dispatcher_most : (n : ℕ) (t : Task) (b : Bool) → slice_get app.tasks n ≡ Some t → is_software t ≡ b
        → most p (if b then ready_section app t.priority 0 t.priority (dispatcher_section_cost app t.priority)
        ∷ free_section app t.priority 0 n ∷ [] else [])
        ≡ counted (can p t.priority 0) (if b then dispatcher_wait app (ceilings app) p n t else 0)
    dispatcher_most n t true at soft =
        two_at p t.priority 0 (ceiling app (section.Ready t.priority)) (dispatcher_section_cost app t.priority)
        (ceiling app (section.Free n)) FREE_COST (ready_at (ceilings app) t.priority) (free_at (ceilings app) n)
        (level_at n t.priority t at soft refl) (free_at_is app n t at soft)
    dispatcher_most n t false at soft = counted_none (can p t.priority 0)

    task_most : (n : ℕ) (t : Task) → slice_get app.tasks n ≡ Some t → most p
        (block_sections app t.priority 0 t.body.block ++ dispatcher_sections app n t)
        ≡ task_wait app (cost_measure app) (ceilings app) p n t
    task_most n t at =
        let m : Member = record { id = body.Task n; priority = t.priority; args = t.args; body = t.body } in
        joined p t.priority 0 (block_sections app t.priority 0 t.body.block) (dispatcher_sections app n t)
        (block_wait app (cost_measure app) (ceilings app) p t.body.block)
        (if is_software t then dispatcher_wait app (ceilings app) p n t else 0)
        (block_most p m t.priority 0 t.args [] [] t.body.block
        (sound.bodies (body.Task n) m
        (ap (λ (o : Option Task). option_map (λ u. let y : Member =
        record { id = body.Task n; priority = u.priority; args = u.args; body = u.body } in y) o) at)))
        (dispatcher_most n t (is_software t) at refl)
        ∙ ap (λ x. counted x (max (block_wait app (cost_measure app) (ceilings app) p t.body.block)
        (if is_software t then dispatcher_wait app (ceilings app) p n t else 0))) (outermost t.priority p)

    tasks_most : (n : ℕ) (ts : List Task) → AreFrom app.tasks n ts → most p (tasks_sections app n ts)
        ≡ tasks_wait app (cost_measure app) (ceilings app) p n ts
    tasks_most n [] from = refl
    tasks_most n (t ∷ ts) from =
        most_append p (block_sections app t.priority 0 t.body.block ++ dispatcher_sections app n t)
        (tasks_sections app (n + 1) ts)
        ∙ ap (λ x. max x (most p (tasks_sections app (n + 1) ts))) (task_most n t (first_from app.tasks n t ts from))
        ∙ ap (max (task_wait app (cost_measure app) (ceilings app) p n t))
        (tasks_most (n + 1) ts (rest_from app.tasks n t ts from))

    moved_most : (priority n : ℕ) (t : Task) (b armed : Bool) → slice_get app.tasks n ≡ Some t → is_software t ≡ b
        → most p (if b && armed then ready_section app priority 0 t.priority READY_COST ∷ [] else [])
        ≡ counted (can p priority 0)
        (if b then (if armed then if_reaches p (ready_at (ceilings app) t.priority) READY_COST else 0) else 0)
    moved_most priority n t true true at soft =
        alone_at p priority 0 (ceiling app (section.Ready t.priority)) READY_COST (ready_at (ceilings app) t.priority)
        (level_at n t.priority t at soft refl)
    moved_most priority n t true false at soft = counted_none (can p priority 0)
    moved_most priority n t false armed at soft = counted_none (can p priority 0)

    moves_most : (priority n : ℕ) (ts : List Task) → AreFrom app.tasks n ts → most p (moved_sections app priority n ts)
        ≡ counted (can p priority 0) (moves_wait app (ceilings app) p n ts)
    moves_most priority n [] from = counted_none (can p priority 0)
    moves_most priority n (t ∷ ts) from =
        joined p priority 0 (if is_software t && is_armed app n then ready_section app priority 0 t.priority READY_COST
        ∷ [] else []) (moved_sections app priority (n + 1) ts)
        (move_wait app (ceilings app) p n t) (moves_wait app (ceilings app) p (n + 1) ts)
        (moved_most priority n t (is_software t) (is_armed app n) (first_from app.tasks n t ts from) refl)
        (moves_most priority (n + 1) ts (rest_from app.tasks n t ts from))

    timer_most : (o : Option Mono) → app.mono ≡ o → most p (handler_sections app o)
        ≡ timer_wait app (cost_measure app) (ceilings app) p o
    timer_most None e = refl
    timer_most (Some mono) e =
        let own = if_reaches p (or_zero (ceilings app).timer) (timer_section_cost app) in
        ap (λ x. max x (most p (moved_sections app mono.priority 0 app.tasks)))
        (one_at p mono.priority 0 (ceiling app section.Timer) (timer_section_cost app)
        (or_zero (ceilings app).timer) (timer_at_is app mono e))
        ∙ ap (max (counted (can p mono.priority 0) own)) (moves_most mono.priority 0 app.tasks (all_from app.tasks))
        ∙ both_counted (can p mono.priority 0) own (moves_wait app (ceilings app) p 0 app.tasks)
        ∙ ap (λ x. counted x (max own (moves_wait app (ceilings app) p 0 app.tasks))) (outermost mono.priority p)

    all_most : most p (sections app) ≡ wait_within app (cost_measure app) (ceilings app) p
    all_most =
        most_append p (idle_sections app app.idle) (tasks_sections app 0 app.tasks ++ handler_sections app app.mono)
        ∙ ap (λ x. max x (most p (tasks_sections app 0 app.tasks ++ handler_sections app app.mono)))
        (idle_most app.idle refl)
        ∙ ap (max (idle_wait app (cost_measure app) (ceilings app) p app.idle))
        (most_append p (tasks_sections app 0 app.tasks) (handler_sections app app.mono)
        ∙ ap (λ x. max x (most p (handler_sections app app.mono))) (tasks_most 0 app.tasks (all_from app.tasks))
        ∙ ap (max (tasks_wait app (cost_measure app) (ceilings app) p 0 app.tasks)) (timer_most app.mono refl))

any_priority : (q : ℕ) (ts : List Task) → list_any (is_of_level q) ts ≡ true → list_any (λ t. t.priority == q) ts ≡ true
any_priority q [] h = cc
any_priority q (t ∷ ts) h =
    ⊎_elim (λ (e : is_of_level q t ≡ true). or_left (t.priority == q) (list_any (λ u. u.priority == q) ts)
    (and_right (is_software t) (t.priority == q) e))
    (λ (e : list_any (is_of_level q) ts ≡ true). or_right (t.priority == q) (list_any (λ u. u.priority == q) ts)
    (any_priority q ts e))
    (or_cases (is_of_level q t) (list_any (is_of_level q) ts) h)

-- the levels are those of a table of flags
few_levels : (app : App) (flags : List Bool) → HasFlags flags (has_handler app) → (q : ℕ)
    → list_any (is_of_level q) app.tasks ≡ true → q < PRIORITIES
few_levels app flags has q h =
    let is : get_or flags q false ≡ true = has.flag q ∙ or_left (list_any (λ t. t.priority == q) app.tasks)
    (is_timed_at q app) (any_priority q app.tasks h) in
    let past : PRIORITIES ≤ q → ⊥ = λ (far : PRIORITIES ≤ q). let none : get_or flags q false ≡ false =
    get_or_past flags q false (omega (arith, has.long, far)) in cc in
    below (cases_order q PRIORITIES) past
  where
    below : (q ≡ PRIORITIES) ⊎ ((q < PRIORITIES) ⊎ (PRIORITIES < q)) → (PRIORITIES ≤ q → ⊥) → q < PRIORITIES
    below (inl same) past = absurd (past (omega (arith, same)))
    below (inr (inl less)) past = less
    below (inr (inr more)) past = absurd (past (omega (arith, more)))

wait_is : (app : App) (flags : List Bool) → HasFlags flags (has_handler app) → IsSound app → (p : ℕ)
    → wait_within app (cost_measure app) (ceilings app) p ≡ waiting_bound app p
wait_is app flags has sound p = sym (all_most app (few_levels app flags has) sound p) ∙ most_is p (sections app)

abbrev wait : ℕ → ℕ → Wait
wait p n = record { priority = p; steps = n }

pub waits_are : (app : App) (m : Measure) (c : Ceilings) (flags : List Bool) → m ≡ cost_measure app → c ≡ ceilings app
    → HasFlags flags (has_handler app) → IsSound app → (ps : List ℕ)
    → map (wait_of app m c) ps ≡ map (λ p. let w : Wait = record { priority = p; steps = waiting_bound app p } in w) ps
waits_are app m c flags measure is has sound ps = ap (λ n. map (wait_of app n c) ps) measure
    ∙ ap (λ d. map (wait_of app (cost_measure app) d) ps) is ∙ map_alike
    (λ p. wait p (wait_within app (cost_measure app) (ceilings app) p)) (λ p. wait p (waiting_bound app p))
    (λ p. ap (wait p) (wait_is app flags has sound p)) ps

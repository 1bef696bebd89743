-- The ready queue of a level, as a plan has it in its tables.
use Rattle.rt_gen_queue.proofs.Vocabulary.{App, Bool, Ceilings, Contains, IsAccepted, IsPlan, Layout, List, None, Plan}
use Rattle.rt_gen_queue.proofs.Vocabulary.{IsSome, Some, Task, [], accepted_are_sound, ap, app_of, arith, ceiling, cond}
use Rattle.rt_gen_queue.proofs.Vocabulary.{eqb-true, false, filter, get_or, guard_of_ceiling, if◌then◌else◌, inl, inr}
use Rattle.rt_gen_queue.proofs.Vocabulary.{irq_number, is_of_level, is_some, length, levels, ltb-true, map, mapped_at}
use Rattle.rt_gen_queue.proofs.Vocabulary.{nat_lt, option_map, or_zero, position, queue_at, ready_at, refl, slice_get}
use Rattle.rt_gen_queue.proofs.Vocabulary.{slice_get-get_or, slice_index, suc, sum_by, sum_by-cons, task_of, then_from}
use Rattle.rt_gen_queue.proofs.Vocabulary.{true, ℕ, ◌+◌, ◌<◌, ◌==◌, ◌^◌, ◌∙◌, ◌∷◌, ◌≡◌, ◌≤◌}
use Rattle.rt_gen_queue.proofs.Vocabulary.{AllByRecursion, all_at, le-ltb, length-map, list_any, lt-ltb, none-some}
use Rattle.rt_gen_queue.proofs.Vocabulary.{same_Some, slice_get_within, subst, sym, zero, ◌-◌}
use Rattle.rt_app.specs.declared.costs.TheConstants.{PRIORITIES}
use Rattle.rt_app.proofs.Rising.{IsRising, above, those_rise}
use Rattle.std.{proofs.lemmas.Bool.cases_Bool, proofs.lemmas.List.Sums.passes_at_first, specs.List.position_or_len}
use Rattle.rt_lemmas.proofs.{Membership.any_contained, Indices.read_at}
use Rattle.rt_ids.proofs.Lists.{is_some-position, position-map}
use Rattle.rt_ids.specs.declared.ids.Section.TheVariants as section
use Rattle.rt_app.specs.declared.app.Task as code
use Rattle.rt_app.specs.declared.ceilings.ReadyCeiling.{ReadyCeiling}
use Rattle.rt_gen_queue.specs.declared.queue.ReadyQueue.{ReadyQueue}

-- the messages of a level that may be ready, task by task
abbrev pub room_of : ℕ → List code.Task → ℕ
room_of p ts = sum_by (λ (t : Task). t.capacity) (filter (is_of_level p) (map task_of ts))

abbrev pub capacity_at : ℕ → Task → ℕ
capacity_at p t = if is_of_level p t then t.capacity else 0

pub room_first : (p : ℕ) (t : code.Task) (ts : List code.Task)
    → room_of p (t ∷ ts) ≡ capacity_at p (task_of t) + room_of p ts
room_first p t ts =
    elim (cases_Bool (is_of_level p (task_of t))) [
      | inl passes ↦
          rw passes (sum_by-cons (λ (t : Task). t.capacity) (task_of t) (filter (is_of_level p) (map task_of ts)))
      | inr fails ↦ rw fails (omega arith)
    ]

abbrev pub row : App → ℕ → ReadyCeiling
row app p = record { level = p; ceiling = ceiling app (section.Ready p) }

-- the index of a level among those of the tables, and the ceiling that they have for it
abbrev pub place_in : List ReadyCeiling → ℕ → ℕ
place_in queues p = or_zero (position (λ r. r.level == p) queues)

abbrev pub top_in : List ReadyCeiling → ℕ → ℕ
top_in queues p = or_zero (option_map (λ r. r.ceiling) (slice_get queues (place_in queues p)))

position_there : (app : App) (p : ℕ) (ps : List ℕ) → Contains ps p
    → slice_get ps (place_in (map (row app) ps) p) ≡ Some p
position_there app p ps is =
    ap (λ o. slice_get ps (or_zero o)) (position-map (row app) (λ r. r.level == p) ps)
    ∙ go (nat_lt k (length ps)) refl (is_some-position (λ q. q == p) ps ∙ any_contained p ps is)
  where
    k : ℕ
    k = position_or_len (λ q. q == p) ps

    go : (b : Bool) → nat_lt k (length ps) ≡ b → is_some (cond b (Some k) None) ≡ true
        → slice_get ps (or_zero (cond b (Some k) None)) ≡ Some p
    go true within some =
        let less : k < length ps = ltb-true k (length ps) within in
        slice_get-get_or ps k 0 less ∙ ap Some (eqb-true (get_or ps k 0) p (passes_at_first (λ q. q == p) ps 0 less))
    go false within some = absurd cc

pub row_there : (app : App) (p : ℕ) (ps : List ℕ) → Contains ps p
    → IsSome (position (λ r. r.level == p) (map (row app) ps))
row_there app p ps is =
    subst (λ o. IsSome o) (sym (position-map (row app) (λ r. r.level == p) ps))
    (is_some-position (λ q. q == p) ps ∙ any_contained p ps is)

-- an index at which there is something is one of the list
some_within : {A B : Type 0} (f : A → B) (xs : List A) (k : ℕ) → IsSome (option_map f (slice_get xs k)) → k < length xs
some_within f [] k some = absurd cc
some_within f (x ∷ xs) zero some = omega arith
some_within f (x ∷ xs) (suc k) some = omega (arith, some_within f xs k some)

-- what is made of the levels, at the index of a level
pub made_at_level : (app : App) (p : ℕ) (f : ℕ → ℕ) (ps : List ℕ) → Contains ps p
    → slice_index (map f ps) (place_in (map (row app) ps) p) ≡ f p
made_at_level app p f ps is = read_at f ps (place_in (map (row app) ps) p) p 0 (position_there app p ps is)

pub ceiling_at_level : (app : App) (p : ℕ) (ps : List ℕ) → Contains ps p
    → top_in (map (row app) ps) p ≡ ceiling app (section.Ready p)
ceiling_at_level app p ps is =
    ap (λ o. or_zero (option_map (λ r. r.ceiling) o))
    (mapped_at (row app) ps (place_in (map (row app) ps) p) p (position_there app p ps is))

-- all are above a lesser number
all_above : (p : ℕ) (ps : List ℕ) → AllByRecursion (λ q. p < q) ps → above p ps ≡ length ps
all_above p [] all = refl
all_above p (q ∷ ps) all =
    ap (λ b. length (if b then q ∷ filter (nat_lt p) ps else filter (nat_lt p) ps)) (lt-ltb p q all.0)
    ∙ ap suc (all_above p ps all.1)

-- those after one are above it
pub above_place : (ps : List ℕ) (k p : ℕ) → IsRising ps → slice_get ps k ≡ Some p → above p ps ≡ length ps - 1 - k
above_place [] k p rising at = absurd (none-some p at)
above_place (q ∷ ps) zero p rising at =
    let same : q ≡ p = same_Some q p at in
    let own : nat_lt p q ≡ false = le-ltb p q (omega arith) in
    let rest : above p ps ≡ length ps = all_above p ps (subst (λ r. AllByRecursion (λ s. r < s) ps) same rising.0) in
    ap (λ b. length (if b then q ∷ filter (nat_lt p) ps else filter (nat_lt p) ps)) own ∙ omega (arith, rest)
above_place (q ∷ ps) (suc k) p rising at =
    let less : q < p = all_at (λ s. q < s) ps k p rising.0 at in
    let own : nat_lt p q ≡ false = le-ltb p q (omega arith) in
    let within : k < length ps = slice_get_within ps k p at in
    ap (λ b. length (if b then q ∷ filter (nat_lt p) ps else filter (nat_lt p) ps)) own
    ∙ omega (arith, above_place ps k p rising.1 at)

-- so many are after a level in the tables
pub above_is : (app : App) (p : ℕ) (ps : List ℕ) → IsRising ps → Contains ps p
    → length (map (row app) ps) - 1 - place_in (map (row app) ps) p ≡ above p ps
above_is app p ps rising is =
    let behind = above_place ps (place_in (map (row app) ps) p) p rising (position_there app p ps is) in
    omega (arith, behind, length-map ps (row app))

-- what the tables have for a level
abbrev pub queue_read : Plan → ℕ → ReadyQueue
queue_read plan p = record {
  level = p;
  at = slice_index plan.lay.ready (place_in plan.ceil.ready p);
  room = room_of p plan.app.now.tasks.items;
  guard = guard_of_ceiling plan.app.now.bits (top_in plan.ceil.ready p);
  irq = or_zero (then_from
      (option_map (λ d. d.irq)
      (slice_get (app_of plan.app.now).dispatchers (length plan.ceil.ready - 1 - place_in plan.ceil.ready p)))
      (irq_number (app_of plan.app.now)));
}

module _ (plan : Plan) (p : ℕ) (planned : IsPlan plan) (level : Contains (levels (app_of plan.app.now)) p) where
  abbrev of_plan : App
  of_plan = app_of plan.app.now

  listed : plan.ceil.ready ≡ map (row of_plan) (levels of_plan)
  listed = ap (λ (c : Ceilings). c.ready) planned.ceilings

  top_at : top_in plan.ceil.ready p ≡ ceiling of_plan (section.Ready p)
  top_at = rw listed (ceiling_at_level of_plan p (levels of_plan) level)

  pub top_small : IsAccepted of_plan → top_in plan.ceil.ready p ≤ 2 ^ plan.app.now.bits
  top_small accepted =
      let most : ceiling of_plan (section.Ready p) ≤ 2 ^ of_plan.bits =
      (accepted_are_sound of_plan accepted).ceilings (section.Ready p) level in
      omega (arith, top_at, most)

  pub place_there : place_in plan.ceil.ready p < length plan.ceil.ready
  place_there =
      let within = slice_get_within (levels of_plan) (place_in (map (row of_plan) (levels of_plan)) p) p
      (position_there of_plan p (levels of_plan) level) in
      rw listed (omega (arith, within, length-map (levels of_plan) (row of_plan)))

  pub place_some : IsSome (position (λ r. r.level == p) plan.ceil.ready)
  place_some = rw listed (row_there of_plan p (levels of_plan) level)

  pub cell_there : place_in plan.ceil.ready p < length plan.lay.ready
  cell_there =
      let rows = ap (λ (qs : List ReadyCeiling). length qs) listed in
      let cells = ap (λ (l : Layout). length l.ready) planned.layout in
      let all = length-map (levels of_plan) (row of_plan) in
      omega (arith, place_there, rows, all, cells, length-map (levels of_plan) (ready_at of_plan))

  -- a dispatcher serves the level
  pub dispatcher_there : IsAccepted of_plan
      → length plan.ceil.ready - 1 - place_in plan.ceil.ready p < length of_plan.dispatchers
  dispatcher_there accepted =
      let rising = those_rise (λ q. list_any (is_of_level q) of_plan.tasks) PRIORITIES in
      let behind = above_is of_plan p (levels of_plan) rising level in
      let served = (accepted_are_sound of_plan accepted).dispatched p level in
      rw listed (omega (arith, behind, some_within (λ d. d.irq) of_plan.dispatchers (above p (levels of_plan)) served))

  -- what is read of the plan's tables is the queue of the level
  pub queue_made : queue_read plan p ≡ queue_at of_plan p
  queue_made =
      let cells : plan.lay.ready ≡ map (ready_at of_plan) (levels of_plan) =
      ap (λ (l : Layout). l.ready) planned.layout in
      let at = made_at_level of_plan p (ready_at of_plan) (levels of_plan) level in
      let rising = those_rise (λ q. list_any (is_of_level q) of_plan.tasks) PRIORITIES in
      let above = above_is of_plan p (levels of_plan) rising level in
      let top = ceiling_at_level of_plan p (levels of_plan) level in
      rw (cells, listed, at, top, above)

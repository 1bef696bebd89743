-- What is counted as blocking bounds each section and each release of each lower body.
use Rattle.std.proofs.Common.{◌≡◌, ℕ, ◌+◌, ◌-◌, ◌≤◌, ◌<◌, if◌then◌else◌, List, [], ◌∷◌}
use Rattle.std.proofs.lemmas.Bool.{le-leb}
use Rattle.std.proofs.lemmas.Option.{same_Some}
use Rattle.std.proofs.Common.{◌||◌, true, false, Option, Some, refl, ap, subst, arith, eq-eqb}
use Rattle.std.specs.List.{list_any}
use Rattle.rt_lemmas.proofs.Membership.{any_left, any_right}
use Rattle.rt_app.specs.Spawned.{value_spawns, statement_spawns, spawns}
use Rattle.rt_respond.specs.Pends.{readies_task}
use Rattle.std.specs.List.{AllByRecursion}
use Rattle.rt_lemmas.proofs.Lists.{all_front, all_behind}
use Rattle.rt_app.specs.Tree.{Spawn, Soon, After, Cancel, Move, Value, Calc, Now, Call, Statement, Bind, Assign, Branch}
use Rattle.rt_app.specs.Tree.{Repeat, Locked, Emit, Pend, Spawns, Block, Empty, Then, App}
use Rattle.rt_app.specs.Bodies.{task_priority}
use Rattle.rt_app.specs.Ceiling.{ceiling}
use Rattle.rt_ids.specs.declared.ids.Section.TheVariants as section
use Rattle.rt_app.specs.declared.costs.TheConstants.{FREE_COST, READY_COST}
use Rattle.rt_app.specs.Cost.{lock_cost, block_cost}
use Rattle.rt_app.specs.BodyCost.{cost_measure}
use Rattle.rt_respond.specs.Number.{plus, greatest_of}
use Rattle.rt_respond.specs.Work.{steps_weight, release_work, sends}
use Rattle.rt_respond.specs.declared.handler.Release.TheVariants as released_by
use Rattle.rt_respond.specs.Blocking.{section_holds, queue_holds, free_holds, ready_holds, spawn_holds, value_holds}
use Rattle.rt_respond.specs.Blocking.{statement_holds, block_holds}
use Rattle.rt_respond.specs.declared.handler.Quantity.{Quantity}
use Rattle.rt_respond.specs.declared.handler.Handler.{Handler}
use Rattle.rt_respond.specs.declared.number.TheConstants.{MOST_WORK}
use Rattle.rt_respond_laws.proofs.Weights.{placed, place_fits}
use Rattle.rt_respond_laws.proofs.Sending.{both_within, sums}
use Rattle.rt_respond_laws.proofs.Modes.{SectionWithin, SpawnWithin, ValueWithin, StatementWithin, BlockWithin}

-- a number that is no greater
pub record IsUpTo (most : ℕ) (w : Option ℕ) : Type 0 where
  pub number : ℕ
  pub is : w ≡ Some number
  pub within : number ≤ most

pub up_to_more : (g most : ℕ) → g ≤ most → (ws : List (Option ℕ)) → AllByRecursion (IsUpTo g) ws
    → AllByRecursion (IsUpTo most) ws
up_to_more g most less [] all = tt
up_to_more g most less (w ∷ ws) all =
    let within = all.0.within in (
      record { number = all.0.number; is = all.0.is; within = omega (arith, within, less) },
      up_to_more g most less ws all.1,
    )

-- none of these is greater than the greatest
pub greatest_bounds : (ws : List (Option ℕ)) (g : ℕ) → greatest_of ws ≡ Some g → AllByRecursion (IsUpTo g) ws
greatest_bounds [] g is = tt
greatest_bounds (w ∷ ws) g is =
    let both = both_within w (greatest_of ws) g is in (
      record { number = both.first; is = both.first_is; within = both.first_within },
      up_to_more both.second g both.second_within ws (greatest_bounds ws both.second both.second_is),
    )

module _ (app : App) (what : Quantity) (i : Handler) (most : ℕ) (below : most < MOST_WORK) where
  -- there is room for a place of each task that these spawns take one of
  abbrev pub RoomFor : List Spawn → Type 0
  RoomFor ss = (n : ℕ) → list_any (readies_task n) ss ≡ true → placed what n ≤ most

  section_within : (inner : Block) → IsUpTo most (section_holds app what i inner)
      → SectionWithin app what i.priority (release_work app what i) most inner
  section_within inner up =
      let within = up.within in
      let parts = sums (Some (steps_weight what (lock_cost (block_cost (cost_measure app) inner) - 1)))
      (sends app what i inner) up.number up.is
      (omega (arith, within, below)) in
      let all = parts.sum in
      let first = same parts.first parts.first_is in
      record {
        releases = parts.second;
        is = parts.second_is;
        below = omega (arith, within, below, all);
        within = omega (arith, within, all, first);
      }
    where
      same : (n : ℕ) → Some (steps_weight what (lock_cost (block_cost (cost_measure app) inner) - 1)) ≡ Some n
          → steps_weight what (lock_cost (block_cost (cost_measure app) inner) - 1) ≡ n
      same n is = cc

  -- a section of a queue, where it counts
  pub record QueueCounts (cost : ℕ) (r : Option ℕ) : Type 0 where
    pub releases : ℕ
    pub is : r ≡ Some releases
    pub within : steps_weight what (cost - 1) + releases ≤ most

  pub queue_counts : (top cost : ℕ) (r : Option ℕ) → AllByRecursion (IsUpTo most) (queue_holds app what i top cost r)
      → i.priority ≤ top → QueueCounts cost r
  queue_counts top cost r all high =
      let one = subst (λ b. AllByRecursion (IsUpTo most) (if b then plus (Some (steps_weight what
      (cost - 1))) r ∷ [] else []))
      (le-leb i.priority top high) all in
      let within = one.0.within in
      let parts = sums (Some (steps_weight what (cost - 1))) r one.0.number one.0.is (omega (arith, within, below)) in
      let sum = parts.sum in
      let first = same_Some (steps_weight what (cost - 1)) parts.first parts.first_is in
      record { releases = parts.second; is = parts.second_is; within = omega (arith, within, sum, first) }

  spawn_within : (s : Spawn) → RoomFor (s ∷ []) → AllByRecursion (IsUpTo most) (spawn_holds app what i s)
      → SpawnWithin app what i.priority (release_work app what i) most s
  spawn_within (Soon t args at) room all = (
    λ high.
        let counts = queue_counts (ceiling app (section.Free t)) FREE_COST (Some 0)
        (all_front (IsUpTo most) (free_holds app what i t) (ready_holds app what i t) all) high in
        place_fits what t (FREE_COST - 1) counts.releases most counts.within
        (room t (ap (λ b. b || false) (eq-eqb t t refl))),
    λ high.
        let counts = queue_counts (ceiling app (section.Ready (task_priority app t))) READY_COST
        (release_work app what i (released_by.Message t))
        (all_behind (IsUpTo most) (free_holds app what i t) (ready_holds app what i t) all) high in
        record { releases = counts.releases; is = counts.is; within = counts.within },
  )
  spawn_within (After word delay t args at) room all = tt
  spawn_within (Cancel word t handle at) room all = tt
  spawn_within (Move word delay t handle at) room all = tt

  value_within : (v : Value) → RoomFor (value_spawns v) → AllByRecursion (IsUpTo most) (value_holds app what i v)
      → ValueWithin app what i.priority (release_work app what i) most v
  value_within (Calc e) room all = tt
  value_within (Now at) room all = tt
  value_within (Call s) room all = spawn_within s room all

  mutual
    pub statement_within : (s : Statement) → RoomFor (statement_spawns s)
        → AllByRecursion (IsUpTo most) (statement_holds app what i s)
        → StatementWithin app what i.priority (release_work app what i) most s
    statement_within (Bind x v) room all = value_within v room all
    statement_within (Assign x e at) room all = tt
    statement_within (Branch e first second) room all = (
      block_within first (λ n is. room n (any_left (readies_task n) (spawns first) (spawns second) is)) (all_front
          (IsUpTo most) (block_holds app what i first) (block_holds app what i second) all),
      block_within second (λ n is. room n (any_right (readies_task n) (spawns first) (spawns second) is)) (all_behind
          (IsUpTo most) (block_holds app what i first) (block_holds app what i second) all),
    )
    statement_within (Repeat x first last turn) room all = block_within turn room all
    statement_within (Locked r inner at) room all = (
      λ test. section_within inner (subst (λ b. AllByRecursion (IsUpTo most)
          (if b then section_holds app what i inner ∷ [] else block_holds app what i inner)) test all).0,
      λ test. block_within inner room (subst (λ b. AllByRecursion (IsUpTo most)
          (if b then section_holds app what i inner ∷ [] else block_holds app what i inner)) test all),
    )
    statement_within (Emit e) room all = tt
    statement_within (Pend irq) room all =
        record { releases = all.0.number; is = all.0.is; within = all.0.within }
    statement_within (Spawns s) room all = spawn_within s room all

    pub block_within : (b : Block) → RoomFor (spawns b) → AllByRecursion (IsUpTo most) (block_holds app what i b)
        → BlockWithin app what i.priority (release_work app what i) most b
    block_within Empty room all = tt
    block_within (Then s rest) room all = (
      statement_within s (λ n is. room n (any_left (readies_task n) (statement_spawns s) (spawns rest) is)) (all_front
          (IsUpTo most) (statement_holds app what i s) (block_holds app what i rest) all),
      block_within rest (λ n is. room n (any_right (readies_task n) (statement_spawns s) (spawns rest) is))
          (all_behind (IsUpTo most) (statement_holds app what i s) (block_holds app what i rest) all),
    )

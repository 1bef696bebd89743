-- What a lower job holds off at a time, along each way on which it can go on: outside of the sections that hold the
-- priority off it releases at most so much at a time, and each such section has at most so many steps behind its first
-- and releases together. A message whose section does not hold the priority off asks for nothing at it.
use Rattle.std.proofs.Common.{◌≡◌, ℕ, zero, suc, ◌+◌, ◌-◌, ◌≤◌, ◌<◌, ◌⊎◌, true, false}
use Rattle.std.proofs.Common.{nat_le}
use Rattle.std.proofs.Common.{List, Option, Some}
use Rattle.std.proofs.Common.{arith}
use Rattle.rt_ids.specs.declared.ids.Section.{Section}
use Rattle.rt_ids.specs.declared.ids.Section.TheVariants as section
use Rattle.rt_actions.specs.Content.{Message, Values}
use Rattle.rt_actions.specs.Action.{Action, Enters, Leaves}
use Rattle.rt_actions.specs.Doing.{Doing, over, does}
use Rattle.rt_app.specs.declared.costs.TheConstants.{FREE_COST, READY_COST}
use Rattle.rt_app.specs.Tree.{Spawn, Soon, After, Cancel, Move, Value, Calc, Now, Call, Statement, Bind}
use Rattle.rt_app.specs.Tree.{Assign, Branch, Repeat, Locked, Emit, Pend, Spawns, Block, Empty, Then, App}
use Rattle.rt_app.specs.Bodies.{task_priority}
use Rattle.rt_app.specs.Ceiling.{ceiling}
use Rattle.rt_app.specs.Cost.{lock_cost, block_cost}
use Rattle.rt_app.specs.BodyCost.{cost_measure}
use Rattle.rt_app.specs.Meaning.{Later}
use Rattle.rt_laws.proofs.Fine.{Queued}
use Rattle.rt_laws.proofs.Hands.{InTransit, Bare, transit_then}
use Rattle.rt_respond.specs.Work.{steps_weight, block_sends}
use Rattle.rt_respond.specs.declared.handler.Quantity.{Quantity}
use Rattle.rt_respond.specs.declared.handler.Release.{Release}
use Rattle.rt_respond.specs.declared.handler.Release.TheVariants as released_by
use Rattle.rt_respond.specs.declared.number.TheConstants.{MOST_WORK}
use Rattle.rt_respond_laws.proofs.Weights.{placed}
use Rattle.rt_respond_laws.proofs.Sending.{Posting, place_of, released}

-- where a job is: outside of the sections that hold the priority off, or inside one, which has so much to release yet,
-- and so many sections deeper
pub data Mode : Type 0 where
  Outside : Mode
  Inside : (rest : ℕ) → (depth : ℕ) → Mode

-- from inside a section an action leads here
abbrev pub moved : Action → ℕ → ℕ → Mode
moved (Enters x cost) rest depth = Inside rest (suc depth)
moved (Leaves x) rest zero = Outside
moved (Leaves x) rest (suc depth) = Inside rest depth
moved action rest depth = Inside rest depth

module _ (app : App) (what : Quantity) (p : ℕ) (most : ℕ) where
  -- it enters a section that holds the priority off, with so many steps behind its first and releases to come, where it
  -- has so much in its hands
  pub record GoesIn (x : Section) (cost held : ℕ) (after : Mode) : Type 0 where
    pub rest : ℕ
    pub holds_off : p ≤ ceiling app x
    pub within : steps_weight what (cost - 1) + rest + held ≤ most
    pub is : after ≡ Inside rest 0

  -- from outside an action leads here
  abbrev pub Comes : ℕ → Action → Mode → Type 0
  Comes held (Enters x cost) after = GoesIn x cost held after ⊎ ((ceiling app x < p) × (after ≡ Outside))
  Comes held action after = after ≡ Outside

  -- how an action that releases so much leads on, of a job that has so much in its hands
  abbrev pub Leads : Mode → Action → ℕ → ℕ → Mode → Type 0
  Leads Outside action now held after = (now + held ≤ most) × Comes held action after
  Leads (Inside rest depth) action now held after =
      (later : ℕ) × (now + later ≤ rest) × (after ≡ moved action later depth)

  -- a Doing holds off no more, with these hands and from this mode on
  abbrev pub Holds : Posting → InTransit → Mode → Doing Values → Type 0
  Holds posts hand mode over = Unit {0}
  Holds posts hand mode (does action made next) =
      (now : ℕ) × (after : Mode) × (released posts action ≡ Some now) × Leads mode action now
      (place_of posts hand) after
      × ((answer : ℕ) (vs : Values) → Queued app vs → Holds posts (transit_then hand action) after (next answer vs))

  abbrev pub LaterHolds : Posting → Mode → Later → Type 0
  LaterHolds posts mode later = (vars : List ℕ) (vs : Values) → Holds posts Bare mode (later vars vs)

  -- inside a section with more to release
  pub more_inside : (posts : Posting) (hand : InTransit) (n k depth : ℕ) (d : Doing Values)
      → Holds posts hand (Inside n depth) d → n ≤ k → Holds posts hand (Inside k depth) d
  more_inside posts hand n k depth over holds less = tt
  more_inside posts hand n k depth (does action made next) holds less =
      let leads = holds.3 in
      let few = leads.1 in
      (holds.0, holds.1, holds.2, (leads.0, omega (arith, few, less), leads.2), holds.4)

module _ (app : App) (what : Quantity) (p : ℕ) (asks : Release → Option ℕ) (most : ℕ) where
  -- a section of this block holds off no more
  pub record SectionWithin (inner : Block) : Type 0 where
    pub releases : ℕ
    pub is : block_sends asks inner ≡ Some releases
    pub below : releases < MOST_WORK
    pub within : steps_weight what (lock_cost (block_cost (cost_measure app) inner) - 1) + releases ≤ most

  -- a release asks for no more
  pub record ReleaseWithin (r : Release) : Type 0 where
    pub releases : ℕ
    pub is : asks r ≡ Some releases
    pub within : releases ≤ most

  -- the section in which a message becomes ready holds off no more
  pub record ReadyWithin (t : ℕ) : Type 0 where
    pub releases : ℕ
    pub is : asks (released_by.Message t) ≡ Some releases
    pub within : steps_weight what (READY_COST - 1) + releases ≤ most

  -- the sections of a spawn, where they count
  abbrev pub SpawnWithin : Spawn → Type 0
  SpawnWithin (Soon t args at) =
      (p ≤ ceiling app (section.Free t) → steps_weight what (FREE_COST - 1) + placed what t ≤ most)
      × (p ≤ ceiling app (section.Ready (task_priority app t)) → ReadyWithin t)
  SpawnWithin (After word delay t args at) = Unit {0}
  SpawnWithin (Cancel word t handle at) = Unit {0}
  SpawnWithin (Move word delay t handle at) = Unit {0}

  abbrev pub ValueWithin : Value → Type 0
  ValueWithin (Calc e) = Unit {0}
  ValueWithin (Now at) = Unit {0}
  ValueWithin (Call s) = SpawnWithin s

  abbrev mutual
    -- the sections of a statement, and its releases outside of them
    pub StatementWithin : Statement → Type 0
    StatementWithin (Bind x v) = ValueWithin v
    StatementWithin (Assign x e at) = Unit {0}
    StatementWithin (Branch e first second) = BlockWithin first × BlockWithin second
    StatementWithin (Repeat x first last turn) = BlockWithin turn
    StatementWithin (Locked r inner at) =
        (nat_le p (ceiling app (section.Res r)) ≡ true → SectionWithin inner)
        × (nat_le p (ceiling app (section.Res r)) ≡ false → BlockWithin inner)
    StatementWithin (Emit e) = Unit {0}
    StatementWithin (Pend i) = ReleaseWithin (released_by.Request i)
    StatementWithin (Spawns s) = SpawnWithin s

    -- and of a block
    pub BlockWithin : Block → Type 0
    BlockWithin Empty = Unit {0}
    BlockWithin (Then s rest) = StatementWithin s × BlockWithin rest

-- a message of a level below the priority asks for nothing at it, and a place counts where its section holds off
pub record LowAsksNone (app : App) (what : Quantity) (p : ℕ) (posts : Posting) : Type 0 where
  pub ready : (t : ℕ) → task_priority app t < p → posts.task t ≡ Some 0
  pub quiet : (t : ℕ) → task_priority app t < p → posts.place t ≡ 0
  pub place : (t : ℕ) → ceiling app (section.Free t) < p → posts.place t ≡ 0
  pub counts : (t : ℕ) → posts.place t ≡ placed what t

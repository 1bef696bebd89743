-- What an auditor says of an item, and of the silent steps before it, for each state of Baker's machine (Stack-Based
-- Scheduling of Realtime Processes, 1991) that the one that it keeps may be: that it may come, and what is kept of the
-- state after it; or that it may not. Likewise of the end.
use Rattle.std.specs.Prelude.{◌≡◌, ℕ, ◌-◌, ◌<◌, ◌≤◌, ◌^◌, Bool, true, false, Option, Some, None}
use Rattle.rt_trace.specs.declared.item.Item.{Item}
use Rattle.rt_trace.specs.declared.item.What.{What}
use Rattle.rt_trace.specs.declared.item.What.TheVariants as what
use Rattle.rt_app.specs.Tree.{App}
use Rattle.rt_laws.specs.State as laws
use Rattle.rt_laws.specs.Allowed.{May, after}
use Rattle.rt_laws.specs.Run.{RunsOn, IsWithinStack}
use Rattle.rt_laws.specs.Counts.{AreWithin}
use Rattle.rt_laws.specs.ByItems.{label_of, steps_after, after_all, silent, Comes, after_item}
use Rattle.rt_baker_moves.specs.State.{AuditorState, StateIs}
use Rattle.rt_baker.specs.declared.done.Done.{Done}
use Rattle.rt_baker.specs.Judge.{steps_done}

-- an item that the running job gives by a step
abbrev pub IsTurn : What → Type 0
IsTurn (what.Pend irq) = ⊥
IsTurn what.Tick = ⊥
IsTurn (what.Take irq depth) = ⊥
IsTurn w = Unit {0}

-- What is kept stands for a state of the machine in which no count is so great that it could not rise.
pub record MayGoOn (app : App) (s : AuditorState) : Type 0 where
  pub state : laws.State
  pub is : StateIs app s state
  pub count : ℕ
  pub within : AreWithin count state
  pub few : count < 2 ^ 32 - 1

-- An item may come, and this is kept of the state after it.
pub record Came (app : App) (t : laws.State) (w : What) (new : AuditorState) : Type 0 where
  pub may : May app t (label_of t.owing w)
  pub is : StateIs app new (after app t (label_of t.owing w))

-- An item came where it might, and only there.
unfoldable pub Judges : App → Bool → AuditorState → AuditorState → What → Type 0
Judges app true old new w = (t : laws.State) → StateIs app old t → Came app t w new
Judges app false old new w = (t : laws.State) → StateIs app old t → May app t (label_of t.owing w) → ⊥

-- So many silent steps may pass, and this is kept of the state after them.
pub record Passed (app : App) (t : laws.State) (k : ℕ) (new : AuditorState) : Type 0 where
  pub runs : RunsOn app t (silent k)
  pub is : StateIs app new (after_all app t (silent k))

-- Silent steps passed where they might, and only there.
unfoldable pub Passes : App → Bool → AuditorState → AuditorState → ℕ → Type 0
Passes app true old new k = (t : laws.State) → StateIs app old t → Passed app t k new
Passes app false old new k = (t : laws.State) → StateIs app old t → RunsOn app t (silent k) → ⊥

-- An item comes where so many steps are done, and this is kept of the state after it, where so many are.
pub record Behind (app : App) (t : laws.State) (n : ℕ) (item : Item) (new : AuditorState) (m : ℕ) : Type 0 where
  pub comes : Comes app t n item
  pub is : StateIs app new (after_item app t n item)
  pub steps : m ≡ steps_after item.step (label_of t.owing item.what)

-- An item came with the silent steps before it where they might, and only there.
unfoldable pub ItemComes : App → Option Done → AuditorState → AuditorState → ℕ → Item → Type 0
ItemComes app None old new n item = (t : laws.State) → StateIs app old t → Comes app t n item → ⊥
ItemComes app (Some d) old new n item = (t : laws.State) → StateIs app old t → Behind app t n item new (steps_done d)

-- an item came so, and within the stack bound
unfoldable pub ItemJudged : App → Option Done → AuditorState → AuditorState → ℕ → Item → Type 0
ItemJudged app None old new n item =
    (t : laws.State) → StateIs app old t → IsWithinStack app item.what → Comes app t n item → ⊥
ItemJudged app (Some d) old new n item =
    IsWithinStack app item.what
    × ((t : laws.State) → StateIs app old t → Behind app t n item new (steps_done d))

-- A trace may end where so many steps are done: silent steps come up to the total, where the trace states one.
abbrev pub Ends : App → laws.State → ℕ → Option ℕ → Type 0
Ends app t n None = Unit {0}
Ends app t n (Some total) = (n ≤ total) × RunsOn app t (silent (total - n))

-- A trace ended where it might, and only there.
unfoldable pub TotalJudged : App → Bool → AuditorState → ℕ → Option ℕ → Type 0
TotalJudged app true s n total = (t : laws.State) → StateIs app s t → Ends app t n total
TotalJudged app false s n total = (t : laws.State) → StateIs app s t → Ends app t n total → ⊥

-- Runs beside devices. Between the labels of a run a device may put a word into a local resource, as hardware hands
-- over a received byte, a pin or a conversion. A local resource belongs to one body (the RTIC 1 book, local resources),
-- and a word is put where no started job may use the resource, so it is what the body finds when it starts. All else of
-- Baker's machine is as without devices. That devices write words between labels is this project's own; a real device
-- has a register, which the body reads.
use Rattle.std.specs.Prelude.{◌≡◌, ℕ, ◌^◌, ◌<◌, false, List, [], ◌∷◌, length, map, take}
use Rattle.std.specs.List.{AllByRecursion}
use Rattle.rt_actions.specs.Location.{Own}
use Rattle.rt_actions.specs.Content.{Number, values_with}
use Rattle.rt_actions.specs.Storage.{Runner, Starting, AtPriority}
use Rattle.rt_trace.specs.Label.{Label}
use Rattle.rt_app.specs.Tree.{App}
use Rattle.rt_app.specs.Holding.{is_kept}
use Rattle.rt_laws.specs.State.{Role, Init, Job, State, first}
use Rattle.rt_laws.specs.Allowed.{May, after}

-- something of one kind, or a word that a device puts into a local resource
pub data WithWords (A : Type 0) : Type 0 where
  One : (thing : A) → WithWords A
  -- the local resource by its index in the order of declaration, and the word
  Puts : (local word : ℕ) → WithWords A

-- things without words
abbrev pub ones : {A : Type 0} → List A → List (WithWords A)
ones things = map One things

-- all but the words
abbrev pub things : {A : Type 0} → List (WithWords A) → List A
things [] = []
things (One thing ∷ more) = thing ∷ things more
things (Puts n word ∷ more) = things more

-- who runs a job's code: `init`, or what runs at a priority
abbrev pub runner_of : Role → ℕ → Runner
runner_of Init priority = Starting
runner_of role priority = AtPriority priority

-- No started job may use a local resource: none of them is of its body, nor of another body of that priority. At most
-- one job of a priority has started at a time.
abbrev pub IsUnused : App → List Job → ℕ → Type 0
IsUnused app jobs n = AllByRecursion (λ job. is_kept app (runner_of job.role job.priority) (Own n) ≡ false) jobs

-- a device may put a word of 32 bits into a local resource of the application that no started job may use; an alarm
-- that is owed comes first
pub record MayPut (app : App) (s : State) (n word : ℕ) : Type 0 where
  pub declared : n < length app.locals
  pub short : word < 2 ^ 32
  pub not_owing : s.owing ≡ false
  pub unused : IsUnused app s.jobs n

-- the state after a word is put
abbrev pub state_after_put : ℕ → ℕ → State → State
state_after_put n word s = record s { values = values_with s.values (Own n) (Number word) }

-- a run beside devices, from a state on: each of these labels and words is allowed after those before it
abbrev pub RunsBeside : App → State → List (WithWords Label) → Type 0
RunsBeside app s [] = Unit {0}
RunsBeside app s (One label ∷ moves) = May app s label × RunsBeside app (after app s label) moves
RunsBeside app s (Puts n word ∷ moves) = MayPut app s n word × RunsBeside app (state_after_put n word s) moves

-- the state after these labels and words
abbrev pub after_moves : App → State → List (WithWords Label) → State
after_moves app s [] = s
after_moves app s (One label ∷ moves) = after_moves app (after app s label) moves
after_moves app s (Puts n word ∷ moves) = after_moves app (state_after_put n word s) moves

-- the state after the first n of them
abbrev pub moved_state : App → List (WithWords Label) → ℕ → State
moved_state app moves n = after_moves app (first app) (take n moves)

-- Good images beside devices. Between two events a device may put a word into the cell of a local resource that no
-- started job may use, as hardware hands over a received byte, a pin or a conversion; Baker's machine takes the same
-- word. All that is said of a good image holds of such runs too, whatever the words are. That devices write words
-- between events is this project's own; on a board the body reads a register.
use Rattle.std.specs.Prelude.{◌≡◌, ℕ, ◌+◌, ◌^◌, ◌<◌, ◌≤◌, List, [], ◌∷◌, ◌++◌, length, take, count_by, Some}
use Rattle.std.specs.List.{AllByRecursion}
use Rattle.rt_ids.specs.Event.{Event, steps}
use Rattle.rt_trace.specs.Label.{Label, IsNoTrap, items_of, steps_of}
use Rattle.rt_trace.specs.declared.item.Item.{Item}
use Rattle.rt_app.specs.declared.app.Mono.{Mono}
use Rattle.rt_app.specs.Tree.{App}
use Rattle.rt_app.specs.Accepted.{IsAccepted}
use Rattle.rt_app.specs.Layout.{local_at}
use Rattle.rt_app.specs.Stack.{stack_bytes}
use Rattle.rt_build.specs.Image.{IsImageOf}
use Rattle.rt_code.specs.Image.{Image}
use Rattle.rt_core.specs.Access.{access}
use Rattle.rt_core.specs.Core.{Core, reset, depth}
use Rattle.rt_core.specs.Trace.{happen}
use Rattle.rt_core.specs.Transfer.{core_after_word}
use Rattle.rt_laws.specs.State.{first}
use Rattle.rt_laws.specs.Observer.{first_sight, sees_all}
use Rattle.rt_laws.specs.Properties.{KeepsLaws}
use Rattle.rt_laws.specs.Unspent.{AreUnspent}
use Rattle.rt_laws.specs.DeviceWords.{WithWords, One, Puts, ones, things, IsUnused, RunsBeside, after_moves}
use Rattle.rt_laws.specs.DeviceWords.{moved_state}
use Rattle.rt_laws.specs.LawsBeside.{KeepsMessagesBeside}
use Rattle.rt_sim.specs.Good.{AreDeclared, is_tick_event, is_arming}
use Rattle.rt_sim.specs.Guarded.{IsGuarded}
use Rattle.rt_sim.specs.Owned.{IsOwned, NoneIsShared}
use Rattle.rt_sim.specs.Whereabouts.{Whereabouts, IsOnce, IsAtReset, AreMoved, times_in_hands}

-- the core after a device has put a word into the cell of a local resource
abbrev pub core_after_put : App → ℕ → ℕ → Core → Core
core_after_put app n word c = core_after_word c (local_at app n) word

module _ (app : App) (img : Image) where
  -- the core after events and words
  abbrev pub core_beside : Core → List (WithWords Event) → Core
  core_beside c [] = c
  core_beside c (One e ∷ moves) = core_beside (happen img c e).0 moves
  core_beside c (Puts n word ∷ moves) = core_beside (core_after_put app n word c) moves

  -- what events show, with the words between
  abbrev pub labels_beside : Core → List (WithWords Event) → List (WithWords Label)
  labels_beside c [] = []
  labels_beside c (One e ∷ moves) = ones (happen img c e).1 ++ labels_beside (happen img c e).0 moves
  labels_beside c (Puts n word ∷ moves) = Puts n word ∷ labels_beside (core_after_put app n word c) moves

  -- the same from reset
  abbrev pub shown_beside : List (WithWords Event) → List (WithWords Label)
  shown_beside moves = labels_beside (reset img) moves

  -- the trace from reset, which shows no word
  abbrev pub trace_beside : List (WithWords Event) → List Item
  trace_beside moves = items_of 0 (things (shown_beside moves))

  -- each word has 32 bits, and is put into a local resource of the application that no job may use that has started
  abbrev pub WordsAreFree : List (WithWords Event) → Type 0
  WordsAreFree moves =
      (front behind : List (WithWords Event)) (n word : ℕ) → moves ≡ front ++ Puts n word ∷ behind
      → (n < length app.locals) × (word < 2 ^ 32)
      × IsUnused app (after_moves app (first app) (shown_beside front)).jobs n

  -- the counts of the monotonic, time and armings, fit their words of memory
  abbrev pub CountsFitBeside : List (WithWords Event) → Type 0
  CountsFitBeside moves = (mono : Mono) → app.mono ≡ Some mono
      → count_by is_tick_event (things moves) + count_by (λ item. is_arming item.what) (trace_beside moves) < 2 ^ 31

  -- the access of the next core step after these events and words is guarded
  abbrev pub AccessIsGuardedBeside : List (WithWords Event) → Type 0
  AccessIsGuardedBeside moves =
      IsGuarded app img (sees_all app (first_sight app) (things (shown_beside moves))).jobs
      (access img (core_beside (reset img) moves))

  -- The access of the next core step after these events and words is owned, where places are as what was shown since
  -- reset tells; and no two started jobs own one cell. No place of a message is at two of these.
  pub record AccessIsOwnedBeside (moves : List (WithWords Event)) : Type 0 where
    pub before : Whereabouts
    pub now : Whereabouts
    pub at_reset : IsAtReset app before
    pub moved : AreMoved (things (shown_beside moves)) before now
    pub once : IsOnce now.in_queues (times_in_hands now.in_hands)
    pub owned : IsOwned app (sees_all app (first_sight app) (things (shown_beside moves))).jobs now
        (access img (core_beside (reset img) moves))
    pub unshared : NoneIsShared app (sees_all app (first_sight app) (things (shown_beside moves))).jobs now

  -- what holds of one list of events with words between
  pub record RunsWellBeside (moves : List (WithWords Event)) : Type 0 where
    -- what the core does is a run of Baker's machine beside devices, in which each word comes where it came to the core
    pub runs : RunsBeside app (first app) (shown_beside moves)
    pub counts : steps_of (things (shown_beside moves)) ≡ steps (things moves)
    pub laws : KeepsLaws app (things (shown_beside moves))
    pub messages : KeepsMessagesBeside app (shown_beside moves)
    -- no job's cost is spent before the job has ended
    pub unspent : (n : ℕ) → AreUnspent (moved_state app (shown_beside moves) n).jobs
    pub stack_within : (n : ℕ) → depth img (core_beside (reset img) (take n moves)) ≤ stack_bytes app
    pub no_trap : AllByRecursion (λ item. IsNoTrap item.what) (trace_beside moves)
    pub guarded : (n : ℕ) → AccessIsGuardedBeside (take n moves)
    pub owned : (n : ℕ) → AccessIsOwnedBeside (take n moves)

-- Every image of an accepted application runs well beside devices: whatever events come, and whatever words are put
-- where no started job may use them.
abbrev pub ImagesAreGoodBeside : Type 0
ImagesAreGoodBeside =
    (app : App) (img : Image) → IsAccepted app → IsImageOf app img → (moves : List (WithWords Event))
    → CountsFitBeside app img moves → AreDeclared app (things moves) → WordsAreFree app img moves
    → RunsWellBeside app img moves

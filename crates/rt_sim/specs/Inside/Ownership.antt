-- What is left to do respects ownership: on its way to each action it changes only what the job owns then, it enters
-- only sections of things that the application has, it reads the clock only where there is a monotonic, and only a
-- handler returns. It is said of the meaning of bodies, not of code.
use Rattle.std.specs.Prelude.{◌≡◌, ℕ, ◌||◌, Bool, true, false, List, ◌∷◌, drop, slice_get, IsSome}
use Rattle.std.specs.List.{AllByRecursion, list_any}
use Rattle.rt_ids.specs.Lists.{is_some_and}
use Rattle.rt_actions.specs.Location.{Location, Guarded, Own, is_same_section}
use Rattle.rt_actions.specs.Content.{Values, messages, delays}
use Rattle.rt_actions.specs.Action.{Action, Enters, Leaves, Clocks, Returns}
use Rattle.rt_actions.specs.Doing.{Doing, over, does}
use Rattle.rt_actions.specs.Storage.{Runner}
use Rattle.rt_ids.specs.declared.ids.Section.{Section}
use Rattle.rt_ids.specs.declared.ids.Section.TheVariants as section
use Rattle.rt_app.specs.Tree.{App}
use Rattle.rt_app.specs.Holding.{is_kept, IsHeld}
use Rattle.rt_app.specs.Level.{is_software, is_of_level}
use Rattle.rt_app.specs.Sending.{Rest}
use Rattle.rt_laws.specs.State.{reached_values}

-- After the opening of a ready queue its messages are of tasks of its level, as memory represents them. After a reading
-- of the clock, by which the timer handler looks for a due message, armed messages are of software tasks.
abbrev pub IsEntered : App → Action → Values → Type 0
IsEntered app (Enters (section.Ready p) cost) vs =
    AllByRecursion (λ m. is_some_and (is_of_level p) (slice_get app.tasks m.task) ≡ true)
    (messages (vs (Guarded (section.Ready p))))
IsEntered app Clocks vs =
    AllByRecursion (λ a. is_some_and is_software (slice_get app.tasks a.message.task) ≡ true)
    (delays (vs (Guarded section.Timer)))
IsEntered app action vs = Unit {0}

module _ (app : App) (who : Runner) (handles : Bool) where
  -- whether the runner owns what a location holds, with these sections open
  abbrev pub owns_in : List Section → Location → Bool
  owns_in held (Guarded x) = list_any (λ y. is_same_section y x) held || is_kept app who (Guarded x)
  owns_in held (Own n) = is_kept app who (Own n)

  -- the sections that are open after an action
  abbrev pub sections_after : List Section → Action → List Section
  sections_after held (Enters x cost) = x ∷ held
  sections_after held (Leaves x) = drop 1 held
  sections_after held action = held

  -- an action enters only sections of things that the application has, reads the clock only of a monotonic, and only a
  -- handler returns
  abbrev pub IsActionOf : Action → Type 0
  IsActionOf (Enters x cost) = IsHeld app (Guarded x)
  IsActionOf Clocks = IsSome app.mono
  IsActionOf Returns = handles ≡ true
  IsActionOf action = Unit {0}

  -- the values that it makes on its way are those before, but for what is owned
  abbrev pub ChangesOwn : List Section → Values → Doing Values → Type 0
  ChangesOwn held vs rest = (h : Location) → owns_in held h ≡ false → reached_values rest vs h ≡ vs h

  -- what is left to do respects ownership, where these sections are open
  abbrev pub RespectsOwnership : List Section → Doing Values → Type 0
  RespectsOwnership held over = Unit {0}
  RespectsOwnership held (does action made next) =
      IsActionOf action
      × ((n : ℕ) (vs : Values) → IsEntered app action vs → ChangesOwn (sections_after held action) vs (next n vs)
      × RespectsOwnership (sections_after held action) (next n vs))

  -- what is left to do respects ownership from whatever values
  abbrev pub AlwaysRespects : List Section → Rest → Type 0
  AlwaysRespects held rest = (vs : Values) → ChangesOwn held vs (rest vs) × RespectsOwnership held (rest vs)

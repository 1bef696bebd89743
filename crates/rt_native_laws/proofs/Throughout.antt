-- Every list of events from reset on.
use Rattle.std.proofs.Common.{◌≡◌, ◌∙◌, ℕ, zero, suc, ◌+◌, ◌^◌, ◌<◌, ◌≤◌, Bool, List, [], ◌∷◌, ◌++◌, refl, ap}
use Rattle.std.proofs.Common.{subst, arith}
use Rattle.rt_code.specs.Image.{Image}
use Rattle.rt_native.specs.Target.{Target}
use Rattle.rt_native_laws.specs.Devices.{ChangeDevices}
use Rattle.rt_native_laws.specs.FromReset.{AreNumbered, HasNoTickAtFirst, SimulatesFromReset}
use Rattle.rt_native_laws.specs.Moments.{Happening}
use Rattle.rt_native_laws.specs.Simulating.{ticks}
use Rattle.rt_native_laws.specs.Throughout.{EndsInReset, EveryListIsSimulated, IsSimulated, LeadsBehindReset}
use Rattle.rt_thumb.specs.Machine.{Machine}
use Rattle.rt_thumb.specs.Step.{Program, Event, Arrives, Changes, Ticks, Goes, GoesLate}
use Rattle.rt_thumb_laws.specs.Undisturbed.{goings}

-- The processor goes on no more often at some events, or so often at the first of them.
data Cut (count : ℕ) (events : List Event) : Type 0 where
  Short : goings events ≤ count → Cut count events
  Long : (before more : List Event) → events ≡ before ++ more → goings before ≡ count → Cut count events

-- one more event, at which the processor does not go on
quiet : (count : ℕ) (event : Event) (events : List Event) → ((xs : List Event) → goings (event ∷ xs) ≡ goings xs)
    → Cut count events → Cut count (event ∷ events)
quiet count event events same (Short few) = Short (omega (arith, few, same events))
quiet count event events same (Long before more parts many) =
    Long (event ∷ before) more (ap (λ (xs : List Event). event ∷ xs) parts) (same before ∙ many)

-- one more, at which it does
goes : (count : ℕ) (event : Event) (events : List Event) → ((xs : List Event) → goings (event ∷ xs) ≡ suc (goings xs))
    → Cut count events → Cut (suc count) (event ∷ events)
goes count event events one (Short few) = Short (omega (arith, few, one events))
goes count event events one (Long before more parts many) =
    Long (event ∷ before) more (ap (λ (xs : List Event). event ∷ xs) parts) (one before ∙ ap suc many)

cut : (count : ℕ) (events : List Event) → Cut count events
cut count [] = Short (omega arith)
cut count (Arrives irq ∷ events) = quiet count (Arrives irq) events (λ xs. refl) (cut count events)
cut count (Changes address value ∷ events) =
    quiet count (Changes address value) events (λ xs. refl) (cut count events)
cut count (Ticks ∷ events) = quiet count Ticks events (λ xs. refl) (cut count events)
cut zero (Goes ∷ events) = Long [] (Goes ∷ events) refl refl
cut (suc count) (Goes ∷ events) = goes count Goes events (λ xs. refl) (cut count events)
cut zero (GoesLate ∷ events) = Long [] (GoesLate ∷ events) refl refl
cut (suc count) (GoesLate ∷ events) = goes count GoesLate events (λ xs. refl) (cut count events)

-- what is said of all is so of the first
early_before : (before more : List Event) → HasNoTickAtFirst (before ++ more) → HasNoTickAtFirst before
early_before [] more early = tt
early_before (Arrives irq ∷ before) more early = early_before before more early
early_before (Ticks ∷ before) more early = early
early_before (Changes address value ∷ before) more early = early_before before more early
early_before (Goes ∷ before) more early = tt
early_before (GoesLate ∷ before) more early = tt

numbered_before : (before more : List Event) → AreNumbered (before ++ more) → AreNumbered before
numbered_before [] more numbered = tt
numbered_before (Arrives irq ∷ before) more numbered = (numbered.0, numbered_before before more numbered.1)
numbered_before (Ticks ∷ before) more numbered = numbered_before before more numbered
numbered_before (Changes address value ∷ before) more numbered = numbered_before before more numbered
numbered_before (Goes ∷ before) more numbered = numbered_before before more numbered
numbered_before (GoesLate ∷ before) more numbered = numbered_before before more numbered

changes_before : (target : Target) (before more : List Event) → ChangeDevices target (before ++ more)
    → ChangeDevices target before
changes_before target [] more changes = tt
changes_before target (Arrives irq ∷ before) more changes = changes_before target before more changes
changes_before target (Ticks ∷ before) more changes = changes_before target before more changes
changes_before target (Changes address value ∷ before) more changes =
    (changes.0, changes_before target before more changes.1)
changes_before target (Goes ∷ before) more changes = changes_before target before more changes
changes_before target (GoesLate ∷ before) more changes = changes_before target before more changes

-- fewer ticks are behind others
pub ticks_behind : (before more : List Event) → ticks more ≤ ticks (before ++ more)
ticks_behind [] more = omega arith
ticks_behind (Arrives irq ∷ before) more = ticks_behind before more
ticks_behind (Ticks ∷ before) more = let rest = ticks_behind before more in omega (arith, rest)
ticks_behind (Changes address value ∷ before) more = ticks_behind before more
ticks_behind (Goes ∷ before) more = ticks_behind before more
ticks_behind (GoesLate ∷ before) more = ticks_behind before more

module _ (img : Image) (target : Target) (p : Program) (fits : List Happening → Bool) (m : Machine)
    (x : SimulatesFromReset img target p fits m) where
  by_cut : (events : List Event) → HasNoTickAtFirst events → AreNumbered events → ChangeDevices target events
      → ticks events + 3 < 2 ^ 32 → Cut x.count events → IsSimulated img target p fits m events
  by_cut events early numbered changes few (Short short) = EndsInReset (x.meanwhile events short early changes)
  by_cut events early numbered changes few (Long before more parts many) =
      let changes_then = changes_before target before more (subst (ChangeDevices target) parts changes) in
      let sooner = early_before before more (subst HasNoTickAtFirst parts early) in
      let fewer = ap ticks parts in
      LeadsBehindReset before more parts (x.meanwhile before (omega (arith, many)) sooner changes_then)
      (x.follows before more many sooner (numbered_before before more (subst AreNumbered parts numbered))
      changes_then
      (omega (arith, few, fewer, ticks_behind before more)))

pub every_list_is_simulated : EveryListIsSimulated
every_list_is_simulated img target p fits m x events early numbered changes few =
    by_cut img target p fits m x events early numbered changes few (cut x.count events)

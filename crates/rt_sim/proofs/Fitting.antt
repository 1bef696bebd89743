-- Where there is a monotonic its counts fit a word: the time where a job reads the clock, and the armings where one
-- opens the timer queue. Nobody else goes by them.
use Rattle.std.proofs.Common.{◌≡◌, ℕ, ◌+◌, ◌^◌, ◌<◌, Option, Some, None, IsSome, refl, arith}
use Rattle.rt_actions.specs.Action.{Clocks}
use Rattle.rt_app.specs.declared.app.Mono.{Mono}
use Rattle.rt_app.specs.Tree.{App}
use Rattle.rt_code.specs.Image.{Image}
use Rattle.rt_core.specs.Standing.{ClockFits}
use Rattle.rt_laws.proofs.Armings.{armings}
use Rattle.rt_sim.specs.Inside.Coupling.{Coupling, configuration_of}
use Rattle.rt_sim.specs.Inside.States.{core_of}
use Rattle.rt_sim.specs.Inside.CouplingInvariant.{CouplingInvariant}
use Rattle.rt_sim.proofs.Acts.{respects_next}
use Rattle.rt_sim.proofs.Plain.{IsWorking}

-- a count fits, where there is a monotonic that keeps it
abbrev pub Fits : App → ℕ → Type 0
Fits app n = (mono : Mono) → app.mono ≡ Some mono → n < 2 ^ 31

-- time and armings fit, at a coupling
abbrev pub FitIn : App → Coupling → Type 0
FitIn app m = Fits app (m.time + armings m.values)

pub fits_timed : (app : App) (n : ℕ) → Fits app n → IsSome app.mono → n < 2 ^ 31
fits_timed app n fits timed = by app.mono refl timed
  where
    by : (o : Option Mono) → app.mono ≡ o → IsSome o → n < 2 ^ 31
    by None is some = absurd cc
    by (Some mono) is some = fits mono is

-- a job that reads the clock next is one of an application with a monotonic
pub clock_fits : (app : App) (img : Image) (thread : ℕ) (m : Coupling) (invariant : CouplingInvariant app img thread m)
    → IsWorking m.running.role → FitIn app m
    → ClockFits (core_of app.bits m) (configuration_of m.cells m.queues m.running)
clock_fits app img thread m invariant works fit made next is =
    let timed : IsSome app.mono = (respects_next app img thread m invariant works Clocks made next is).0 in
    let few : m.time + armings m.values < 2 ^ 31 = fits_timed app (m.time + armings m.values) fit timed in
    omega (arith, few)

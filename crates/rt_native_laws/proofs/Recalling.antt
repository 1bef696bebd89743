-- A function is called: who waits is where it was, since its own function is another exception's.
use Rattle.std.proofs.Common.{◌≡◌, ◌≢◌, ◌∙◌, ℕ, List, [], ◌∷◌, Option, Some, true, IfSome, sym, ap, arith}
use Rattle.std.specs.List.{AllByRecursion}
use Rattle.std.specs.Prelude.{⊤}
use Rattle.rt_code.specs.Image.{Image}
use Rattle.rt_core.specs.Core.{Context, Core, exception_number}
use Rattle.rt_native.specs.Service.{is_called}
use Rattle.rt_native.specs.declared.outside.Outside.{Outside}
use Rattle.rt_native.specs.declared.target.Input.{Input}
use Rattle.rt_thumb.specs.Exceptions.{external}
use Rattle.rt_thumb.specs.Machine.{Machine}
use Rattle.rt_thumb.specs.Step.{Program}
use Rattle.rt_native_laws.specs.InCall.{Within}
use Rattle.rt_native_laws.specs.InTail.{Debt}
use Rattle.rt_native_laws.specs.Moments.{Taking}
use Rattle.rt_native_laws.specs.Phases.{AlreadyDone, Calling, Calls, Entering, FunctionCall, Phase, Reads, Tails}
use Rattle.rt_native_laws.specs.Phases.{ToCome}
use Rattle.rt_native_laws.specs.Phases.{call_of, tail_of, viewed}
use Rattle.rt_native_laws.specs.Waiting.{FunctionCalls, Waiting, interrupted_core, others_tail, resumed}
use Rattle.rt_native_laws.proofs.Interrupting.{exception_is}
use Rattle.rt_native_laws.proofs.Viewing.{view_rest}

module _ (at : Outside) (bottom highest ceiling : ℕ) (inputs : List Input) (irqs : List ℕ) (old now : ℕ
    → Option Machine)
    (img : Image) (places : List ℕ) (p : Program) (irq : ℕ)
    (same : (k : ℕ) → k ≢ irq → now (external k) ≡ old (external k)) where
  abbrev with_last : (ℕ → Option Machine) → FunctionCalls
  with_last last = record { irqs = irqs; under_way = last }

  -- what is fresh of a call, by the states at which functions were called
  abbrev IsSo : (ℕ → Option Machine) → Option FunctionCall → Type 0
  IsSo last o =
      IfSome o (λ call. (is_called irqs call.irq ≡ true) × (call.stage ≡ Within
      → last (external call.irq) ≡ Some call.called))

  so_again : (c : Core) (top : ℕ) (m : Machine) (phase : Phase at bottom img places p c top m)
      → m.exception ≢ external irq → IsSo old (call_of at bottom img places p c top m phase)
      → IsSo now (call_of at bottom img places p c top m phase)
  so_again c top m (ToCome x) other so = tt
  so_again c top m (AlreadyDone x) other so = tt
  so_again c top m (Entering x) other so = tt
  so_again c top m (Calling x) other so = tt
  so_again c top m (Reads x) other so = tt
  so_again c top m (Calls x f) other so =
      (so.0, λ e. same x.irq (λ k. other (x.exception ∙ ap external k)) ∙ so.1 e)
  so_again c top m (Tails core x is) other so = tt

  -- those below what runs are handlers of other interrupts
  abbrev AreOthers : List Context → Type 0
  AreOthers below = AllByRecursion (λ x. external x.irq ≢ external irq) below

  abbrev pub RestAreOthers : List Context → Type 0
  RestAreOthers [] = ⊤
  RestAreOthers (x ∷ below) = AreOthers below

  rest : (below : List Context) → AreOthers below → RestAreOthers below
  rest [] others = tt
  rest (x ∷ below) others = others.1

  number_differs : (below : List Context) → AreOthers below → exception_number below ≢ external irq
  number_differs [] others = λ e. omega (arith, e)
  number_differs (x ∷ below) others = others.0

  pub jobs_again : (tail : Option Debt) (takings : List Taking) (below : List Context) (c : Core) (top : ℕ)
      (m : Machine)
      → RestAreOthers below
      → Waiting at bottom highest ceiling inputs (with_last old) img places p tail takings below c top m
      → Waiting at bottom highest ceiling inputs (with_last now) img places p tail takings below c top m
  jobs_again tail [] [] c top m others jobs = jobs
  jobs_again tail [] (x ∷ below) c top m others jobs = absurd jobs
  jobs_again tail (taking ∷ takings) [] c top m others jobs = absurd jobs
  jobs_again tail (taking ∷ takings) (x ∷ below) c top m others
      (aligned, small, runs, active, link, up, next, within, fits, higher, phase, fresh, more) =
      let back = resumed taking.base_priority top m in
      let there = interrupted_core taking.base_priority c x below in
      let view = viewed at bottom img places p there next back phase in
      let left = others_tail (tail_of at bottom img places p there next back phase) tail in
      let number : back.exception ≡ exception_number below =
      sym (ap (λ (y : Machine). y.exception) (view_rest at bottom img places p there next back phase))
      ∙ exception_is at bottom highest ceiling inputs (with_last old) img places p left there next view takings below
      more in (
        aligned,
        small,
        runs,
        active,
        link,
        up,
        next,
        within,
        fits,
        higher,
        phase,
        (
          fresh.0,
          fresh.1,
          fresh.2,
          so_again there next back phase (λ e. number_differs below others (sym number ∙ e)) fresh.3,
        ),
        jobs_again left takings below there next view (rest below others) more,
      )

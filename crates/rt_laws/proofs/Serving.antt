-- From its take to its return no job of lower priority takes a step.
use Rattle.std.proofs.Common.{◌≡◌, ℕ, ◌≤◌, ◌==◌, ◌⊎◌, Bool, true, false, List, [], ◌∷◌, Option, Some, refl, sym, ap}
use Rattle.std.proofs.Common.{subst, ◌∙◌, arith, eq-eqb, inl, inr}
use Rattle.rt_lemmas.proofs.Bools.{true_and_false}
use Rattle.rt_trace.specs.Label.{Label, Stepped}
use Rattle.rt_trace.specs.declared.item.What.{What}
use Rattle.rt_trace.specs.declared.item.What.TheVariants as what
use Rattle.rt_app.specs.Tree.{App}
use Rattle.rt_app.specs.Accepted.{IsAccepted}
use Rattle.rt_laws.specs.Services.{priority_of}
use Rattle.rt_laws.specs.State.{Role, Serving, Job, State}
use Rattle.rt_laws.specs.Preemption.{system_ceiling}
use Rattle.rt_laws.specs.Allowed.{May, after}
use Rattle.rt_laws.specs.Observer.{Seen, Observer, sees}
use Rattle.rt_laws.specs.Waiting.{stepper, steppers, lower, is_return, ServesWell}
use Rattle.rt_laws.specs.DeviceWords.{WithWords, One, Puts, things, state_after_put, RunsBeside}
use Rattle.rt_laws.proofs.Well.{alone_at_bottom, IsAbove, StackWell, StateWell, IsThread, Changes, GoesOn, Restarts}
use Rattle.rt_laws.proofs.Well.{ComesBack}
use Rattle.rt_laws.proofs.Pending.{starts_above}
use Rattle.rt_laws.proofs.Happens.{Happens, Quietly, ByTake, ByStep, happens, after_well}
use Rattle.rt_laws.proofs.Beside.{put_well}
use Rattle.rt_laws.proofs.Waiting.{steppers_on, steppers_ended, not_lower, first_of}

-- the handling of an interrupt stands in the stack, and what stands on it has no lower priority
abbrev pub Up : ℕ → ℕ → List Job → Type 0
Up irq p [] = ⊥
Up irq p (job ∷ others) = (job.role ≡ Serving irq) ⊎ ((p ≤ job.priority) × Up irq p others)

serving_same : (i j : ℕ) → Serving i ≡ Serving j → i ≡ j
serving_same i j h = cc

no_thread : (irq : ℕ) (role : Role) → IsThread role → role ≡ Serving irq → ⊥
no_thread irq role thread is = subst IsThread is thread

module _ (app : App) (accepted : IsAccepted app) (irq : ℕ) where
  abbrev p : ℕ
  p = priority_of app irq

  own_priority : (role : Role) (q : ℕ) (others : List Job) → role ≡ Serving irq → IsAbove app role q others → p ≡ q
  own_priority role q others is above = (subst (λ r. IsAbove app r q others) is above).0

  pub up_ceiling : (js : List Job) (vs : List Seen) → StackWell app js vs → Up irq p js → p ≤ system_ceiling app js
  up_ceiling [] vs stack up = absurd up
  up_ceiling (job ∷ others) [] stack up = absurd stack
  up_ceiling (job ∷ others) (seen ∷ seens) stack (inl is) = let same : p ≡ job.priority =
      own_priority job.role job.priority others is stack.1 in omega arith
  up_ceiling (job ∷ others) (seen ∷ seens) stack (inr deeper) = let over = deeper.0 in omega arith

  pub up_top : (job : Job) (others : List Job) → IsAbove app job.role job.priority others → Up irq p (job ∷ others)
      → p ≤ job.priority
  up_top job others above (inl is) = let same : p ≡ job.priority =
      own_priority job.role job.priority others is above in omega arith
  up_top job others above (inr deeper) = deeper.0

  -- the step is not the return itself
  pub up_after : (label : Label) (job : Job) (others : List Job) (seen : Seen) (seens : List Seen) (shown : Option What)
      (jobs : List Job) (views : List Seen) → IsAbove app job.role job.priority others
      → Up irq p (job ∷ others) → ((j : ℕ) → shown ≡ Some (what.Ret j) → label ≡ Stepped (Some (what.Ret j)))
      → is_return irq label ≡ false → Changes app job seen others seens shown jobs views → Up irq p jobs
  up_after label job others seen seens shown jobs views above (inl is) item goes_on
      (GoesOn new view js vs role_is priority_is nearer) = subst (Up irq p) (sym js) (inl (role_is ∙ is))
  up_after label job others seen seens shown jobs views above (inr deeper) item goes_on
      (GoesOn new view js vs role_is priority_is nearer) =
      subst (Up irq p) (sym js) (inr (subst (λ q. p ≤ q) (sym priority_is) deeper.0, deeper.1))
  up_after label job others seen seens shown jobs views above (inl is) item goes_on
      (Restarts new view js vs thread closed) = absurd (no_thread irq job.role thread is)
  up_after label job others seen seens shown jobs views above (inr deeper) item goes_on
      (Restarts new view js vs thread closed) =
      absurd (subst (Up irq p) (alone_at_bottom app job.role job.priority others thread above) deeper.1)
  up_after label job others seen seens shown jobs views above (inl is) item goes_on (ComesBack j js vs role_is given) =
      let same : j ≡ irq = serving_same j irq (sym role_is ∙ is) in
      absurd (true_and_false (is_return irq label) (ap (is_return irq) (item j given) ∙ eq-eqb j irq same) goes_on)
  up_after label job others seen seens shown jobs views above (inr deeper) item goes_on
      (ComesBack j js vs role_is given) = subst (Up irq p) (sym js) deeper.1

  abbrev serving : Observer → List Label → List Seen
  serving v labels = lower p (steppers app (is_return irq) v labels)

  serves : (moves : List (WithWords Label)) (s : State) (v : Observer) → StateWell app s v → RunsBeside app s moves
      → Up irq p s.jobs → serving v (things moves) ≡ []
  serves [] s v well runs up = refl
  serves (Puts n word ∷ moves) s v well runs up =
      serves moves (state_after_put n word s) v (put_well app s v n word well) runs.1 up
  serves (One label ∷ moves) s v well runs up =
      let comes = happens app accepted s v well label runs.0 in
      by comes (serves moves (after app s label) (sees app v label)
      (after_well app accepted s v well label comes) runs.1)
    where
      labels : List Label
      labels = things moves

      by : Happens app s v label (after app s label) (sees app v label)
          → (Up irq p (after app s label).jobs → serving (sees app v label) labels ≡ [])
          → serving v (label ∷ labels) ≡ []
      by (Quietly good jobs views none no_take no_return) next =
          ap (lower p) (steppers_on app (is_return irq) v label labels [] (no_return irq) none)
          ∙ next (subst (Up irq p) (sym jobs) up)
      by (ByTake j d job is good jobs views role priority best) next =
          let over = starts_above app s j best in
          let least : p ≤ system_ceiling app s.jobs = up_ceiling s.jobs v.jobs well.stack up in
          ap (lower p) (steppers_on app (is_return irq) v label labels [] (ap (is_return irq) is) (ap (stepper v) is))
          ∙ next (subst (Up irq p) (sym jobs) (inr (omega arith, up)))
      by (ByStep shown step steps no_take return) next = one (is_return irq label) refl
        where
          up_here : Up irq p (step.job ∷ step.others)
          up_here = subst (Up irq p) step.jobs_are up

          over : p ≤ step.seen.priority
          over = subst (λ q. p ≤ q) (sym step.well.priority) (up_top step.job step.others step.above up_here)

          one : (b : Bool) → is_return irq label ≡ b → serving v (label ∷ labels) ≡ []
          one true ended = ap (lower p) (steppers_ended app (is_return irq) v label labels ended)
          one false goes_on =
              ap (lower p) (steppers_on app (is_return irq) v label labels (step.seen ∷ []) goes_on
              (steps ∙ ap first_of step.views_are))
              ∙ not_lower p step.seen (steppers app (is_return irq) (sees app v label) labels) over
              ∙ next (up_after label step.job step.others step.seen step.seens shown (after app s label).jobs
              (sees app v label).jobs step.above up_here return goes_on step.led.moves)

module _ (app : App) (accepted : IsAccepted app) where
  pub serves_well : (s : State) (v : Observer) (label : Label) (moves : List (WithWords Label)) → StateWell app s v
      → May app s label → RunsBeside app (after app s label) moves → ServesWell app v label (things moves)
  serves_well s v (Stepped (Some (what.Take irq depth))) moves well may runs =
      let label : Label = Stepped (Some (what.Take irq depth)) in
      let comes = happens app accepted s v well label may in
      serves app accepted irq moves (after app s label) (sees app v label)
      (after_well app accepted s v well label comes) runs (started comes)
    where
      started : Happens app s v (Stepped (Some (what.Take irq depth)))
          (after app s (Stepped (Some (what.Take irq depth)))) (sees app v (Stepped (Some (what.Take irq depth))))
          → Up irq (priority_of app irq) (after app s (Stepped (Some (what.Take irq depth)))).jobs
      started (Quietly good jobs views none no_take no_return) =
          absurd (true_and_false (irq == irq) (eq-eqb irq irq refl) (no_take irq))
      started (ByTake j d job is good jobs views role priority best) =
          let same : irq ≡ j = cc in
          subst (Up irq (priority_of app irq)) (sym jobs) (inl (role ∙ ap Serving (sym same)))
      started (ByStep shown step steps no_take return) =
          absurd (true_and_false (irq == irq) (eq-eqb irq irq refl) (no_take irq))
  serves_well s v label moves well may runs = tt

-- The loop over the core's steps: what each of them shows, and when the first exception entry comes.
use Rattle.std.proofs.Common.{◌≡◌, ℕ, suc, ◌+◌, ◌<◌, inl, inr, List, [], ◌∷◌, ◌++◌, replicate, Option}
use Rattle.std.proofs.Common.{ap, sym, subst, ◌∙◌, arith}
use Rattle.std.proofs.lemmas.Bool.{cases_lt}
use Rattle.std.proofs.lemmas.List.{replicate_more}
use Rattle.rt_ids.specs.Event.{Event, Arrive, Step, steps}
use Rattle.rt_code.specs.Image.{Image}
use Rattle.rt_core.specs.Core.{Core}
use Rattle.rt_core.specs.Machine.{Machine, IsFresh}
use Rattle.rt_core.specs.Stepping.{step}
use Rattle.rt_core.specs.Trace.{core_after}
use Rattle.rt_run.specs.Done.{Leads}
use Rattle.rt_run.proofs.Advancing.{leads_on}
use Rattle.rt_run.proofs.Happened.{step_leads}
use Rattle.rt_trace.specs.declared.item.What.{What}
use Rattle.rt_reach.specs.Deepest.{item_after, IsFirstTake}
use Rattle.rt_reach.specs.Inside.Soon.{TakesWithin}
use Rattle.rt_reach.specs.Take.{IsTake}
use Rattle.rt_run.proofs.Reached.{steps_are}

-- an interrupt is requested, and so many core steps are done
abbrev pub starts : ℕ → ℕ → List Event
starts irq done = Arrive irq ∷ replicate done Step

pub starts_more : (irq done : ℕ) → starts irq (done + 1) ≡ starts irq done ++ Step ∷ []
starts_more irq done = ap (λ es. Arrive irq ∷ es) (sym (replicate_more done Step))

-- what a step shows
pub shows : (old now : Machine) (irq done : ℕ) (shown : Option What) → IsFresh old → Leads (starts irq done) old now
    → shown ≡ (step now.image now.core).1 → shown ≡ item_after old.image irq done
shows old now irq done shown fresh run is =
    is ∙ ap (λ (img : Image). (step img now.core).1) run.image ∙ ap (λ (c : Core). (step old.image c).1) run.core
    ∙ ap (λ (c : Core). (step old.image (core_after old.image c (starts irq done))).1) fresh.core

pub few_done : (old now : Machine) (irq done : ℕ) → IsFresh old → Leads (starts irq done) old now → now.steps ≡ done
few_done old now irq done fresh run = omega (arith, run.steps, fresh.steps, steps_are done)

-- one step more
pub leads_more : (old now after : Machine) (irq done : ℕ) → Leads (starts irq done) old now
    → after ≡ record now { core = (step now.image now.core).0; steps = suc now.steps }
    → Leads (starts irq (done + 1)) old after
leads_more old now after irq done run is =
    subst (λ es. Leads es old after) (sym (starts_more irq done))
    (leads_on (starts irq done) (Step ∷ []) old now after run (step_leads now after is))

-- the entry cannot come later than it does
pub comes_by : (most : ℕ) (img : Image) (irq : ℕ) → TakesWithin most img irq
    → ((k : ℕ) → k < most → ¬ IsTake (item_after img irq k)) → ⊥
comes_by most img irq soon none =
    none soon.first.done (omega (arith, soon.few, soon.first.number)) soon.first.takes

-- and comes in one step alone
pub one_first : (img : Image) (irq m n : ℕ) → IsFirstTake img irq m → IsFirstTake img irq n → m ≡ n
one_first img irq m n a b = elim (cases_lt a.done b.done) [
  | inl less ↦ absurd (b.none a.done less a.takes)
  | inr least ↦ elim (cases_lt b.done a.done) [
    | inl less ↦ absurd (a.none b.done less b.takes)
    | inr most ↦ omega (arith, least, most, a.number, b.number)
  ]
]

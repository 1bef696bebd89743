-- How many steps the running job may take, by what is kept of it.
use Rattle.std.proofs.Common.{◌≡◌, ℕ, ◌≤◌, nat_le, Bool, true, false, List, [], ◌∷◌, Some, slice_get, refl}
use Rattle.std.proofs.Common.{sym, ap, ◌∙◌, subst}
use Rattle.std.proofs.lemmas.Option.{same_Some, none-some}
use Rattle.std.specs.List.{AllByRecursion, list_all}
use Rattle.std.proofs.lemmas.Bool.{leb-true, le-leb}
use Rattle.rt_lemmas.proofs.Bools.{and_parts, and_both, true_and_false}
use Rattle.rt_app.specs.Tree.{App}
use Rattle.rt_laws.specs.Silent.{HasSteps, MaySpend}
use Rattle.rt_laws.specs.State as laws
use Rattle.rt_baker_moves.specs.Job.{AuditorJob, rest_of, with_rest}
use Rattle.rt_baker_moves.specs.State.{AuditorState, JobsAre, StateIs}
use Rattle.rt_baker_moves.specs.Inside.SystemCeiling.{has_steps, may_spend, first_may_spend}

steps_there : (r : laws.Role) (left k : ℕ) → has_steps r left k ≡ true → HasSteps r left k
steps_there laws.Init left k h = leb-true k left h
steps_there laws.Idle left k h = leb-true k left h
steps_there laws.Waiting left k h = tt
steps_there (laws.Serving irq) left k h = leb-true k left h

steps_told : (r : laws.Role) (left k : ℕ) → HasSteps r left k → has_steps r left k ≡ true
steps_told laws.Init left k h = le-leb k left h
steps_told laws.Idle left k h = le-leb k left h
steps_told laws.Waiting left k h = refl
steps_told (laws.Serving irq) left k h = le-leb k left h

all_there : (k : ℕ) (ns : List ℕ) → list_all (nat_le k) ns ≡ true → AllByRecursion (λ n. k ≤ n) ns
all_there k [] h = tt
all_there k (n ∷ ns) h =
    let parts = and_parts (nat_le k n) (list_all (nat_le k) ns) h in
    (leb-true k n parts.0, all_there k ns parts.1)

all_told : (k : ℕ) (ns : List ℕ) → AllByRecursion (λ n. k ≤ n) ns → list_all (nat_le k) ns ≡ true
all_told k [] all = refl
all_told k (n ∷ ns) all = and_both (nat_le k n) (list_all (nat_le k) ns) (le-leb k n all.0) (all_told k ns all.1)

abbrev MaySpendOne : ℕ → laws.Job → Type 0
MaySpendOne k job = HasSteps job.role job.left k × AllByRecursion (λ n. k ≤ n) job.lefts

module _ (app : App) (k : ℕ) where
  spends : (js : List AuditorJob) (ks : List laws.Job) → JobsAre app js ks → first_may_spend k js ≡ true → MaySpend k ks
  spends [] ks h e = absurd cc
  spends (j ∷ js) [] h e = absurd h
  spends (j ∷ js) (job ∷ others) h e =
      let parts = and_parts (has_steps j.role j.left k) (list_all (nat_le k) j.lefts) e in
      subst (λ (l : laws.Job). MaySpendOne k l) (sym h.0.is) (
        steps_there j.role j.left k parts.0,
        all_there k j.lefts parts.1,
      )

  told : (js : List AuditorJob) (ks : List laws.Job) → JobsAre app js ks → MaySpend k ks → first_may_spend k js ≡ true
  told [] [] h may = absurd may
  told [] (job ∷ others) h may = absurd h
  told (j ∷ js) [] h may = absurd h
  told (j ∷ js) (job ∷ others) h may =
      let own : MaySpendOne k (with_rest app j (rest_of app j h.0.values)) =
      subst (λ (l : laws.Job). MaySpendOne k l) h.0.is may in
      and_both (has_steps j.role j.left k) (list_all (nat_le k) j.lefts) (steps_told j.role j.left k own.0) (all_told
      k j.lefts own.1)

  pub may : (s : AuditorState) (b : Bool) → b ≡ first_may_spend k s.jobs → b ≡ true → (t : laws.State) → StateIs app s t
      → MaySpend k t.jobs
  may s b is holds t h = spends s.jobs t.jobs h.jobs (sym is ∙ holds)

  pub may_not : (s : AuditorState) (b : Bool) → b ≡ first_may_spend k s.jobs → b ≡ false → (t : laws.State)
      → StateIs app s t → MaySpend k t.jobs → ⊥
  may_not s b is fails t h spends = true_and_false b (is ∙ told s.jobs t.jobs h.jobs spends) fails

-- the job that stands first runs
pub first_there : (k : ℕ) (js all : List AuditorJob) (j : AuditorJob) → js ≡ all → slice_get js 0 ≡ Some j
    → may_spend k j ≡ first_may_spend k all
first_there k js all j same at =
    sym (of_first js at) ∙ ap (λ (is : List AuditorJob). first_may_spend k is) same
  where
    of_first : (is : List AuditorJob) → slice_get is 0 ≡ Some j → first_may_spend k is ≡ may_spend k j
    of_first [] at = absurd (none-some j at)
    of_first (i ∷ is) at = ap (λ (l : AuditorJob). may_spend k l) (same_Some i j at)

-- Behind items no count is greater than their number: each adds one label that shows something, and silent steps add
-- nothing.
use Rattle.std.proofs.Common.{◌≡◌, ℕ, zero, suc, ◌+◌, ◌-◌, List, [], ◌∷◌, ◌++◌, length, None, refl, ap, sym, ◌∙◌}
use Rattle.std.proofs.Common.{subst, arith}
use Rattle.rt_trace.specs.Label.{Label, Stepped}
use Rattle.rt_trace.specs.declared.item.Item.{Item}
use Rattle.rt_app.specs.Tree.{App}
use Rattle.rt_app.specs.Accepted.{IsAccepted}
use Rattle.rt_laws.specs.State.{State, first}
use Rattle.rt_laws.specs.Allowed.{after}
use Rattle.rt_laws.specs.Run.{RunsOn}
use Rattle.rt_laws.specs.ByItems.{label_of, steps_after, after_all, silent, Comes}
use Rattle.rt_laws.specs.Counts.{AreWithin}
use Rattle.rt_laws.proofs.ByItems.{runs_append, after_append}
use Rattle.rt_laws.proofs.Counting.{counts_rise_by_one}
use Rattle.rt_baker.specs.Judge.{state_after, AllCome}

module _ (app : App) where
  -- a run from the start leads to the state
  record Reaches (s : State) : Type 0 where
    labels : List Label
    runs : RunsOn app (first app) labels
    leads : after_all app (first app) labels ≡ s

  from_start : Reaches (first app)
  from_start = record { labels = []; runs = tt; leads = refl }

  further : (s : State) (more : List Label) → Reaches s → RunsOn app s more → Reaches (after_all app s more)
  further s more r runs = record {
    labels = r.labels ++ more;
    runs = runs_append app r.labels more (first app) r.runs
        (subst (λ (u : State). RunsOn app u more) (sym r.leads) runs);
    leads = after_append app r.labels more (first app) ∙ ap (λ (u : State). after_all app u more) r.leads;
  }

  pub silent_within : (k n : ℕ) (s : State) → AreWithin n s → AreWithin n (after_all app s (silent k))
  silent_within zero n s within = within
  silent_within (suc k) n s within =
      silent_within k n (after app s (Stepped None)) (counts_rise_by_one.silent app s n within)

  module _ (accepted : IsAccepted app) where
    raised : (s : State) (label : Label) (n : ℕ) → Reaches s → AreWithin n s → AreWithin (suc n) (after app s label)
    raised s label n r within =
        subst (λ (u : State). AreWithin (suc n) (after app u label)) r.leads
        (counts_rise_by_one.one app accepted r.labels r.runs label n
        (subst (λ (u : State). AreWithin n u) (sym r.leads) within))

    come_within : (items : List Item) (s : State) (d n : ℕ) → Reaches s → AreWithin n s → AllCome app s d items
        → AreWithin (n + length items) (state_after app s d items)
    come_within [] s d n r within all =
        let same : n ≡ n + 0 = omega arith in subst (λ (m : ℕ). AreWithin m s) same within
    come_within (item ∷ items) s d n r within all =
        let comes : Comes app s d item = all.0 in
        let label : Label = label_of s.owing item.what in
        let k : ℕ = item.step - d in
        let mid : State = after_all app s (silent k) in
        let there : Reaches mid = further s (silent k) r comes.quiet in
        let more : suc n + length items ≡ n + length (item ∷ items) = omega arith in
        subst (λ (m : ℕ). AreWithin m (state_after app s d (item ∷ items))) more
        (come_within items (after app mid label) (steps_after item.step label) (suc n)
        (further mid (label ∷ []) there (comes.allowed, tt))
        (raised mid label n there (silent_within k n s within)) all.1)

    pub behind_within : (items : List Item) → AllCome app (first app) 0 items
        → AreWithin (length items) (state_after app (first app) 0 items)
    behind_within items all =
        let same : 0 + length items ≡ length items = omega arith in
        subst (λ (m : ℕ). AreWithin m (state_after app (first app) 0 items)) same
        (come_within items (first app) 0 0 from_start (counts_rise_by_one.start app accepted) all)

-- Every run of an accepted application keeps the three properties, and its sections nest and are left in time.
use Rattle.std.proofs.Common.{◌≡◌, ℕ, ◌<◌, List, [], ◌∷◌, sym, subst, arith}
use Rattle.std.specs.List.{AllByRecursion}
use Rattle.rt_actions.specs.Location.{Guarded}
use Rattle.rt_actions.specs.Content.{timer_content}
use Rattle.rt_ids.specs.declared.ids.Section.TheVariants as section
use Rattle.rt_trace.specs.Label.{Label}
use Rattle.rt_app.specs.Tree.{App}
use Rattle.rt_app.specs.Accepted.{IsAccepted}
use Rattle.rt_laws.specs.State.{Role, Init, Idle, Waiting, Serving, Job, State, first}
use Rattle.rt_laws.specs.Preemption.{system_ceiling}
use Rattle.rt_laws.specs.Allowed.{May, after}
use Rattle.rt_laws.specs.Run.{RunsOn}
use Rattle.rt_laws.specs.Observer.{Seen, Observer, first_sight, sees, sees_all}
use Rattle.rt_laws.specs.Waiting.{WaitsWell, ServesWell}
use Rattle.rt_laws.specs.Properties.{AtEach, AreExclusive, FindsFree, LeavesInnermost, IsOutsideAtReturn}
use Rattle.rt_laws.specs.Properties.{IsOutsideAtEnd, KeepsLaws}
use Rattle.rt_laws.specs.ByItems.{after_all}
use Rattle.rt_laws.specs.Queues.{KeepsQueues}
use Rattle.rt_laws.specs.Handles.{KeepsHandles}
use Rattle.rt_laws.specs.Laws.{RunsKeepLaws, JudgedTracesKeepLaws, IsHighestFirst, TheHighestRuns}
use Rattle.rt_laws.specs.DeviceWords.{WithWords, One, Puts, ones, things, state_after_put, RunsBeside, after_moves}
use Rattle.rt_laws.specs.LawsBeside.{RunsBesideKeepLaws}
use Rattle.rt_laws.proofs.Well.{IsAbove, StackWell, StateWell}
use Rattle.rt_laws.proofs.Happens.{first_well, happens, after_well}
use Rattle.rt_laws.proofs.Handled.{are_handled}
use Rattle.rt_laws.proofs.Order.{all_in_order}
use Rattle.rt_laws.proofs.Beside.{things_ones, put_well, runs_ones, after_ones}
use Rattle.rt_laws.proofs.Free.{exclusive, finds_free, leaves_innermost, returns_outside, ends_outside}
use Rattle.rt_laws.proofs.Waiting.{waits_well}
use Rattle.rt_laws.proofs.Serving.{serves_well}

module _ (app : App) (accepted : IsAccepted app) where
  pub next_well : (s : State) (v : Observer) (label : Label) → StateWell app s v → May app s label
      → StateWell app (after app s label) (sees app v label)
  next_well s v label well may = after_well app accepted s v well label (happens app accepted s v well label may)

  -- what holds at each label of a run
  at_each : (P : Observer → Label → List Label → Type 0)
      → ((s : State) (v : Observer) (label : Label) (moves : List (WithWords Label)) → StateWell app s v
      → May app s label → RunsBeside app (after app s label) moves → P v label (things moves))
      → (moves : List (WithWords Label)) (s : State) (v : Observer) → StateWell app s v → RunsBeside app s moves
      → AtEach P app v (things moves)
  at_each P each [] s v well runs = tt
  at_each P each (One label ∷ moves) s v well runs = (
    each s v label moves well runs.0 runs.1,
    at_each P each moves (after app s label) (sees app v label) (next_well s v label well runs.0) runs.1,
  )
  at_each P each (Puts n word ∷ moves) s v well runs =
      at_each P each moves (state_after_put n word s) v (put_well app s v n word well) runs.1

  one_section : (s : State) (v : Observer) (label : Label) (moves : List (WithWords Label)) → StateWell app s v
      → May app s label → RunsBeside app (after app s label) moves
      → WaitsWell app v label (things moves) × ServesWell app v label (things moves)
  one_section s v label moves well may runs = (
    λ irq x served was now. waits_well app accepted irq x served moves (after app s label) (sees app v label)
        (next_well s v label well may) runs now,
    serves_well app accepted s v label moves well may runs,
  )

pub runs_beside_keep_laws : RunsBesideKeepLaws
runs_beside_keep_laws app accepted moves runs = record {
  exclusive = at_each app accepted (λ v label behind. AreExclusive (sees app v label).jobs)
      (λ s v label behind well may runs. exclusive app (after app s label).jobs (sees app v label).jobs
      (next_well app accepted s v label well may).stack)
      moves (first app) (first_sight app) (first_well app accepted) runs;
  never_waits = at_each app accepted (λ v label behind. FindsFree v label)
      (λ s v label behind well may runs. finds_free app s v label well may) moves (first app) (first_sight app)
      (first_well app accepted) runs;
  one_section = at_each app accepted (λ v label behind. WaitsWell app v label behind × ServesWell app v label behind)
      (one_section app accepted) moves (first app) (first_sight app)
      (first_well app accepted) runs;
  nested = at_each app accepted (λ v label behind. LeavesInnermost v label)
      (λ s v label behind well may runs. leaves_innermost app s v label well may) moves (first app)
      (first_sight app) (first_well app accepted) runs;
  returns = at_each app accepted (λ v label behind. IsOutsideAtReturn v label)
      (λ s v label behind well may runs. returns_outside app s v label well may) moves (first app)
      (first_sight app) (first_well app accepted) runs;
  ends = at_each app accepted (λ v label behind. IsOutsideAtEnd v label)
      (λ s v label behind well may runs. ends_outside app s v label well may) moves (first app)
      (first_sight app) (first_well app accepted) runs;
}

-- a run without words is one beside devices
pub runs_keep_laws : RunsKeepLaws
runs_keep_laws app accepted labels runs =
    subst (KeepsLaws app) (things_ones labels)
    (runs_beside_keep_laws app accepted (ones labels) (runs_ones app labels (first app) runs))

pub judged_traces_keep_laws : JudgedTracesKeepLaws
judged_traces_keep_laws app trace accepted judged = runs_keep_laws app accepted judged.run.labels judged.run.allowed

below_ceiling : (app : App) (q : ℕ) (js : List Job) → system_ceiling app js < q
    → AllByRecursion (λ other. other.priority < q) js
below_ceiling app q [] less = tt
below_ceiling app q (job ∷ others) less = let deeper : system_ceiling app others < q = omega arith in
    (omega arith, below_ceiling app q others deeper)

highest_first : (app : App) (js : List Job) (vs : List Seen) → StackWell app js vs → IsHighestFirst js
highest_first app [] vs stack = tt
highest_first app (job ∷ others) [] stack = absurd stack
highest_first app (job ∷ others) (seen ∷ seens) stack = by job.role stack.1
  where
    none : others ≡ [] → AllByRecursion (λ other. other.priority < job.priority) others
    none is = subst (λ js. AllByRecursion (λ other. other.priority < job.priority) js) (sym is) tt

    by : (role : Role) → IsAbove app role job.priority others
        → AllByRecursion (λ other. other.priority < job.priority) others
    by Init above = none above
    by Idle above = none above.0
    by Waiting above = none above.0
    by (Serving irq) above = below_ceiling app job.priority others above.1

-- what is well stays so, behind the labels and the words of a run
pub well_after : (app : App) → IsAccepted app → (moves : List (WithWords Label)) (s : State) (v : Observer)
    → StateWell app s v → RunsBeside app s moves
    → StateWell app (after_moves app s moves) (sees_all app v (things moves))
well_after app accepted [] s v well runs = well
well_after app accepted (One label ∷ moves) s v well runs =
    well_after app accepted moves (after app s label) (sees app v label)
    (next_well app accepted s v label well runs.0) runs.1
well_after app accepted (Puts n word ∷ moves) s v well runs =
    well_after app accepted moves (state_after_put n word s) v (put_well app s v n word well) runs.1

pub run_well : (app : App) → IsAccepted app → (moves : List (WithWords Label)) → RunsBeside app (first app) moves
    → (u : Observer) × StateWell app (after_moves app (first app) moves) u
run_well app accepted moves runs = (
  sees_all app (first_sight app) (things moves),
  well_after app accepted moves (first app) (first_sight app) (first_well app accepted) runs,
)

-- and behind the labels of a run without words
pub labels_well : (app : App) → IsAccepted app → (labels : List Label) → RunsOn app (first app) labels
    → (u : Observer) × StateWell app (after_all app (first app) labels) u
labels_well app accepted labels runs =
    let behind = run_well app accepted (ones labels) (runs_ones app labels (first app) runs) in
    (behind.0, subst (λ s. StateWell app s behind.0) (after_ones app labels (first app)) behind.1)

pub the_highest_runs : TheHighestRuns
the_highest_runs app accepted labels runs =
    let behind = labels_well app accepted labels runs in
    highest_first app (after_all app (first app) labels).jobs behind.0.jobs behind.1.stack

pub handles_kept : (app : App) → IsAccepted app → (moves : List (WithWords Label)) → RunsBeside app (first app) moves
    → KeepsHandles (after_moves app (first app) moves)
handles_kept app accepted moves runs =
    are_handled (timer_content ((after_moves app (first app) moves).values (Guarded section.Timer)))
    (run_well app accepted moves runs).1.queued.handles

pub queues_kept : (app : App) → IsAccepted app → (moves : List (WithWords Label)) → RunsBeside app (first app) moves
    → KeepsQueues app (after_moves app (first app) moves)
queues_kept app accepted moves runs =
    let s : State = after_moves app (first app) moves in
    all_in_order app s.time s.values s.jobs (run_well app accepted moves runs).1.order

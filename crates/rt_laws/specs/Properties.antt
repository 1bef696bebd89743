-- The three properties that Baker proves of his protocol (Stack-Based Scheduling of Realtime Processes, 1991), of
-- what a run shows, from the first label to the last: sections exclude each other, no job finds a section taken, and
-- a job waits for one section of one lower job at most. The observer who reads them takes each leave to be of the
-- section entered last, and drops a job at its return with whatever it is inside. That sections nest, and that jobs
-- return outside them, is kept beside the three.
use Rattle.std.specs.Prelude.{◌≡◌, ℕ, List, [], ◌∷◌, slice_get, take, Some}
use Rattle.std.specs.List.{AllByRecursion}
use Rattle.rt_ids.specs.Choice.{IsIn}
use Rattle.rt_ids.specs.declared.ids.BodyId.TheVariants as body
use Rattle.rt_ids.specs.declared.ids.Section.{Section}
use Rattle.rt_trace.specs.Label.{Label, Stepped}
use Rattle.rt_trace.specs.declared.item.What.TheVariants as what
use Rattle.rt_app.specs.Tree.{App}
use Rattle.rt_laws.specs.Observer.{Seen, Observer, first_sight, sees}
use Rattle.rt_laws.specs.Waiting.{WaitsWell, ServesWell}

-- a property holds at each label, of what an observer knows before it and of the labels after it
abbrev pub AtEach : (Observer → Label → List Label → Type 0) → App → Observer → List Label → Type 0
AtEach P app v [] = Unit {0}
AtEach P app v (label ∷ labels) = P v label labels × AtEach P app (sees app v label) labels

-- two jobs that are inside one section are one job
abbrev pub AreExclusive : List Seen → Type 0
AreExclusive jobs =
    (i j : ℕ) (a b : Seen) (x : Section) → slice_get jobs i ≡ Some a → slice_get jobs j ≡ Some b → IsIn a.inside x
    → IsIn b.inside x → i ≡ j

-- where a section is entered no job is inside it
abbrev pub FindsFree : Observer → Label → Type 0
FindsFree v (Stepped (Some (what.Enter x))) = AllByRecursion (λ job. ¬ IsIn job.inside x) v.jobs
FindsFree v label = Unit {0}

-- mutual exclusion: at every moment no two jobs are inside one section
abbrev pub Exclusive : App → List Label → Type 0
Exclusive app labels = AtEach (λ v label behind. AreExclusive (sees app v label).jobs) app (first_sight app) labels

-- no contended lock: wherever a section is entered, no job is inside it
abbrev pub NeverWaits : App → List Label → Type 0
NeverWaits app labels = AtEach (λ v label behind. FindsFree v label) app (first_sight app) labels

-- bounded blocking: an interrupt waits for one section of one lower job at most, and from its take on for none
abbrev pub OneSection : App → List Label → Type 0
OneSection app labels = AtEach (λ v label behind. WaitsWell app v label behind × ServesWell app v label behind) app
    (first_sight app) labels

-- a section that is left is the one that the running job entered last, as the observer takes it
abbrev pub LeavesInnermost : Observer → Label → Type 0
LeavesInnermost v (Stepped (Some (what.Leave x value))) =
    AllByRecursion (λ job. slice_get job.inside 0 ≡ Some x) (take 1 v.jobs)
LeavesInnermost v label = Unit {0}

-- sections nest: a job leaves the one that it entered last
abbrev pub SectionsNest : App → List Label → Type 0
SectionsNest app labels = AtEach (λ v label behind. LeavesInnermost v label) app (first_sight app) labels

-- the running job is inside nothing
abbrev pub IsOutside : List Seen → Type 0
IsOutside jobs = AllByRecursion (λ job. job.inside ≡ []) (take 1 jobs)

-- a job that returns is inside nothing: a handler, and `init`, which returns to the thread
abbrev pub IsOutsideAtReturn : Observer → Label → Type 0
IsOutsideAtReturn v (Stepped (Some (what.Ret irq))) = IsOutside v.jobs
IsOutsideAtReturn v (Stepped (Some (what.End body.Init))) = IsOutside v.jobs
IsOutsideAtReturn v label = Unit {0}

-- a job returns outside every section, so the observer drops no section with it
abbrev pub ReturnsOutside : App → List Label → Type 0
ReturnsOutside app labels = AtEach (λ v label behind. IsOutsideAtReturn v label) app (first_sight app) labels

-- where a body ends, its job is inside nothing
abbrev pub IsOutsideAtEnd : Observer → Label → Type 0
IsOutsideAtEnd v (Stepped (Some (what.End b))) = IsOutside v.jobs
IsOutsideAtEnd v label = Unit {0}

-- a body ends outside every section: `init`, each turn of `idle`, and the body of a software task
abbrev pub EndsOutside : App → List Label → Type 0
EndsOutside app labels = AtEach (λ v label behind. IsOutsideAtEnd v label) app (first_sight app) labels

-- the three properties of a run, and that its sections nest and are left in time, by which the three are read
pub record KeepsLaws (app : App) (labels : List Label) : Type 0 where
  pub exclusive : Exclusive app labels
  pub never_waits : NeverWaits app labels
  pub one_section : OneSection app labels
  -- each leave is of the section entered last, so the observer is right about what jobs are inside
  pub nested : SectionsNest app labels
  -- no job returns, and no body ends, inside a section
  pub returns : ReturnsOutside app labels
  pub ends : EndsOutside app labels

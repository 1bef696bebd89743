-- What one sees of the jobs by what the core shows: the open sections of each are those of the points.
use Rattle.std.proofs.Common.{◌≡◌, ℕ, suc, List, [], ◌∷◌, drop, map, slice_get, Option, Some, None, refl, sym, ap}
use Rattle.std.proofs.Common.{subst, take}
use Rattle.std.specs.List.{AllByRecursion, Contains}
use Rattle.std.proofs.lemmas.Option.{same_Some, none-some}
use Rattle.rt_lemmas.proofs.Lists.{all_unmap, mapped_at}
use Rattle.rt_ids.specs.Choice.{IsIn}
use Rattle.rt_ids.specs.declared.ids.BodyId.TheVariants as body
use Rattle.rt_ids.specs.declared.ids.Section.{Section}
use Rattle.rt_trace.specs.Label.{Label, Arrived, Ticked, Rang, Stepped, items_of, IsNoTrap}
use Rattle.rt_trace.specs.declared.item.What.{What}
use Rattle.rt_trace.specs.declared.item.What.TheVariants as what
use Rattle.rt_app.specs.Tree.{App}
use Rattle.rt_laws.specs.Properties.{AreExclusive, FindsFree, LeavesInnermost, IsOutside, IsOutsideAtReturn}
use Rattle.rt_laws.specs.Observer.{Seen, Observer, IsInside, on_running, seen_after_enter, seen_after_leave, sees}
use Rattle.rt_safe.specs.Inside.Steps.{on_first, insides_after, FindsNone, LeavesLastEntered, ReturnsInNone}
use Rattle.rt_safe.specs.Inside.Steps.{IsNoTrapShown}
use Rattle.rt_safe.specs.Safe.{IsInit}
use Rattle.rt_safe.proofs.Apart.{AreApart}

-- the item of a step, and none for what is no step
abbrev pub shown_of : Label → Option What
shown_of (Stepped shown) = shown
shown_of label = None

-- the open sections of each job as it is seen
abbrev pub seen_insides : List Seen → List (List Section)
seen_insides jobs = map (λ job. job.inside) jobs

entering_seen : (x : Section) (n : ℕ) (jobs : List Seen)
    → seen_insides (on_running (seen_after_enter x n) jobs) ≡ on_first (λ inside. x ∷ inside) (seen_insides jobs)
entering_seen x n [] = refl
entering_seen x n (job ∷ others) = refl

leaving_seen : (jobs : List Seen) → seen_insides (on_running seen_after_leave jobs)
    ≡ on_first (drop 1) (seen_insides jobs)
leaving_seen [] = refl
leaving_seen (job ∷ others) = refl

returned_seen : (jobs : List Seen) → seen_insides (drop 1 jobs) ≡ drop 1 (seen_insides jobs)
returned_seen [] = refl
returned_seen (job ∷ others) = refl

ended_seen : (jobs : List Seen)
    → seen_insides (on_running (λ job. record job { priority = 0 }) jobs) ≡ seen_insides jobs
ended_seen [] = refl
ended_seen (job ∷ others) = refl

pub sees_insides : (app : App) (v : Observer) (label : Label)
    → seen_insides (sees app v label).jobs ≡ insides_after (shown_of label) (seen_insides v.jobs)
sees_insides app v (Stepped (Some (what.Ret irq))) = returned_seen v.jobs
sees_insides app v (Stepped (Some (what.Enter x))) = entering_seen x v.steps v.jobs
sees_insides app v (Stepped (Some (what.Leave x value))) = leaving_seen v.jobs
sees_insides app v (Stepped (Some (what.End body.Init))) = ended_seen v.jobs
sees_insides app v label = refl

-- two jobs that are inside one section are one job
pub exclusive_of : (jobs : List Seen) (insides : List (List Section)) → seen_insides jobs ≡ insides → AreApart insides
    → AreExclusive jobs
exclusive_of jobs insides same apart i j a b x at_a at_b in_a in_b =
    apart i j a.inside b.inside x
    (subst (λ xs. slice_get xs i ≡ Some a.inside) same (mapped_at (λ job. job.inside) jobs i a at_a))
    (subst (λ xs. slice_get xs j ≡ Some b.inside) same (mapped_at (λ job. job.inside) jobs j b at_b)) in_a in_b

-- where a section is entered no job is inside it
pub free_of : (v : Observer) (label : Label) → FindsNone (shown_of label) (seen_insides v.jobs) → FindsFree v label
free_of v (Stepped (Some (what.Enter x))) free = all_unmap (λ job. job.inside) (λ inside. ¬ IsIn inside x) v.jobs free
free_of v label free = tt

-- a section that is left is the one that the running job entered last
innermost_of : (x : Section) (jobs : List Seen)
    → AllByRecursion (λ inside. slice_get inside 0 ≡ Some x) (take 1 (seen_insides jobs))
    → AllByRecursion (λ job. slice_get job.inside 0 ≡ Some x) (take 1 jobs)
innermost_of x [] last = tt
innermost_of x (job ∷ others) last = (last.0, tt)

pub nested_of : (v : Observer) (label : Label) → LeavesLastEntered (shown_of label) (seen_insides v.jobs)
    → LeavesInnermost v label
nested_of v (Stepped (Some (what.Leave x value))) last = innermost_of x v.jobs last
nested_of v label last = tt

-- where a job returns it is inside nothing
outside_of : (jobs : List Seen) → AllByRecursion (λ inside. inside ≡ []) (take 1 (seen_insides jobs)) → IsOutside jobs
outside_of [] none = tt
outside_of (job ∷ others) none = (none.0, tt)

pub returns_of : (v : Observer) (label : Label) → ReturnsInNone (shown_of label) (seen_insides v.jobs)
    → IsOutsideAtReturn v label
returns_of v (Stepped (Some (what.Ret irq))) none = outside_of v.jobs none
returns_of v (Stepped (Some (what.End body.Init))) none = outside_of v.jobs none
returns_of v label none = tt

-- the running job is inside what is open at its point
pub inside_of : (jobs : List Seen) (inside : List Section) (others : List (List Section)) (x : Section)
    → seen_insides jobs ≡ inside ∷ others → IsIn inside x → IsInside jobs x
inside_of [] inside others x same is = absurd (none-some inside (ap (λ xs. slice_get xs 0) same))
inside_of (job ∷ rest) inside others x same is =
    subst (λ s. IsIn s x) (sym (same_Some job.inside inside (ap (λ xs. slice_get xs 0) same))) is

-- one job alone, where `init` has not ended, is `init`
pub init_of : (labels : List Label) (jobs : List Seen) (inside : List Section) → seen_insides jobs ≡ inside ∷ []
    → ¬ Contains labels (Stepped (Some (what.End body.Init))) → IsInit labels jobs
init_of labels [] inside same going = absurd (none-some inside (ap (λ xs. slice_get xs 0) same))
init_of labels (job ∷ []) inside same going = going
init_of labels (job ∷ other ∷ rest) inside same going =
    absurd (none-some other.inside (sym (ap (λ xs. slice_get xs 1) same)))

-- a label that shows no trap has no item of one
pub untrapped : (label : Label) (labels : List Label) (n : ℕ) → IsNoTrapShown (shown_of label)
    → ((m : ℕ) → AllByRecursion (λ item. IsNoTrap item.what) (items_of m labels))
    → AllByRecursion (λ item. IsNoTrap item.what) (items_of n (label ∷ labels))
untrapped (Arrived irq) labels n none rest = (tt, rest n)
untrapped Ticked labels n none rest = (tt, rest n)
untrapped Rang labels n none rest = (tt, rest n)
untrapped (Stepped None) labels n none rest = rest (suc n)
untrapped (Stepped (Some w)) labels n none rest = (none, rest (suc n))

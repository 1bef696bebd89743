-- What a step leaves of what has limits, once `init` has ended: nothing is pending that was not, and jobs have limits.
use Rattle.std.proofs.Common.{◌≡◌, ◌≢◌, ℕ, ◌==◌, Bool, true, false, List, [], ◌∷◌, drop, length, slice_set}
use Rattle.std.proofs.Common.{slice_index_or, Option, None, refl, sym, ap, subst, ◌∙◌, eq-eqb}
use Rattle.std.specs.List.{AllByRecursion}
use Rattle.std.proofs.lemmas.Bool.{eqb-true}
use Rattle.std.proofs.lemmas.List.{length-set}
use Rattle.rt_lemmas.proofs.Bools.{true_and_false}
use Rattle.rt_lemmas.proofs.Indices.{now_cleared}
use Rattle.rt_trace.specs.Label.{Stepped}
use Rattle.rt_trace.specs.declared.item.What.{What}
use Rattle.rt_code.specs.Image.{Image}
use Rattle.rt_core.specs.Core.{Core}
use Rattle.rt_core.specs.Priority.{pick}
use Rattle.rt_core.specs.Stepping.{step}
use Rattle.rt_laws.specs.Waiting.{is_take}
use Rattle.rt_points.specs.Checked.{IsChecked}
use Rattle.rt_points.specs.Point.{Point}
use Rattle.rt_points.specs.declared.point.Owner.TheVariants as owner
use Rattle.rt_safe.specs.Inside.Moved.{Moved, Taken, Gone, Opened_one, Closed_one, Served, Back}
use Rattle.rt_safe.specs.Inside.RunsAtPoints.{RunsAtPoints}
use Rattle.rt_rta.specs.declared.limits.Limit.{Limit}
use Rattle.rt_rta.proofs.Owing.{other_set}
use Rattle.rt_image_times.specs.Form.{requests_itself}
use Rattle.rt_timely.specs.Waiting.{IsPending}
use Rattle.rt_timely.specs.Watching.{SeenJob, Watch, stepped, inside_too, outside_again, on_running, entered}
use Rattle.rt_timely.specs.Watching.{after_step}
use Rattle.rt_timely.proofs.Keeping.{silent_seen}
use Rattle.rt_image_times_laws.proofs.Lowering.{IsLimited, IsLive, taken_clears, taken_set}
use Rattle.rt_image_times_laws.proofs.Unpending.{pending_stays}

-- what is set behind a clearing was set before
pub set_before : (pending : List Bool) (n k : ℕ) → slice_index_or (slice_set pending n false) k false ≡ true
    → slice_index_or pending k false ≡ true
set_before pending n k set = by (k == n) refl
  where
    by : (b : Bool) → (k == n) ≡ b → slice_index_or pending k false ≡ true
    by true test =
        absurd (true_and_false (slice_index_or (slice_set pending n false) k false) set
        (ap (λ i. slice_index_or (slice_set pending n false) i false) (eqb-true k n test) ∙ now_cleared pending n))
    by false test = sym (other_set pending n k false (λ e. true_and_false (k == n) (eq-eqb k n e) test)) ∙ set

module _ (img : Image) (checked : IsChecked img) (form : requests_itself img ≡ false) (c : Core) (p : Point)
    (qs : List Point) (fits : RunsAtPoints img c p qs) (after : Core) (shown : Option What) (q : Point)
    (rest : List Point) (is : step img c ≡ (after, shown)) where
  -- what is pending behind a step: as it was, or without what is taken
  pub data Pends : Type 0 where
    AsBefore : after.pending ≡ c.pending → Pends
    Cleared : (n : ℕ) → after.pending ≡ slice_set c.pending n false → Pends

  pub stays_pending : pick img c ≡ None → after.pending ≡ c.pending
  stays_pending picked =
      ap (λ (r : Core × Option What). r.0.pending) (sym is) ∙ pending_stays img checked form c p qs fits picked

  pub pends : Moved img c p qs shown q rest → Pends
  pends (Taken t) = Cleared t.row.number (taken_clears img c p qs fits after shown q rest is t)
  pends (Gone one inside silent) = AsBefore (stays_pending one.none)
  pends (Opened_one one) = AsBefore (stays_pending one.goes.none)
  pends (Closed_one one) = AsBefore (stays_pending one.goes.none)
  pends (Served one) = AsBefore (stays_pending one.none)
  pends (Back one) = AsBefore (stays_pending one.none)

  -- an interrupt stays pending until its take
  pub waits_on : Moved img c p qs shown q rest → (irq : ℕ) → is_take irq (Stepped shown) ≡ false → IsPending c irq
      → IsPending after irq
  waits_on how irq other set = by how
    where
      kept : pick img c ≡ None → IsPending after irq
      kept picked = ap (λ ps. slice_index_or ps irq false) (stays_pending picked) ∙ set

      by : Moved img c p qs shown q rest → IsPending after irq
      by (Taken t) =
          let differs : (t.row.number == irq) ≡ false = sym (ap (λ s. is_take irq (Stepped s)) t.shows) ∙ other in
          ap (λ ps. slice_index_or ps irq false) (taken_clears img c p qs fits after shown q rest is t)
          ∙ other_set c.pending t.row.number irq false
          (λ e. true_and_false (t.row.number == irq) (eq-eqb t.row.number irq (sym e)) differs) ∙ set
      by (Gone one inside silent) = kept one.none
      by (Opened_one one) = kept one.goes.none
      by (Closed_one one) = kept one.goes.none
      by (Served one) = kept one.none
      by (Back one) = kept one.none

  pub pending_before : Pends → (k : ℕ) → slice_index_or after.pending k false ≡ true
      → slice_index_or c.pending k false ≡ true
  pending_before (AsBefore e) k set = ap (λ ps. slice_index_or ps k false) (sym e) ∙ set
  pending_before (Cleared n e) k set = set_before c.pending n k (ap (λ ps. slice_index_or ps k false) (sym e) ∙ set)

  pub long_stays : Pends → length after.pending ≡ length c.pending
  long_stays (AsBefore e) = ap (λ (ps : List Bool). length ps) e
  long_stays (Cleared n e) = ap (λ (ps : List Bool). length ps) e ∙ length-set c.pending n false

  module _ (limits : List Limit) (w : Watch) where
    abbrev AreLimited : List SeenJob → Type 0
    AreLimited jobs = AllByRecursion (λ (job : SeenJob). IsLimited limits job.whose) jobs

    runs : (f : SeenJob → SeenJob) → ((job : SeenJob) → (f job).whose ≡ job.whose) → (jobs : List SeenJob)
        → AreLimited jobs → AreLimited (on_running f jobs)
    runs f keeps [] all = tt
    runs f keeps (job ∷ jobs) all = (subst (IsLimited limits) (sym (keeps job)) all.0, all.1)

    less : (jobs : List SeenJob) → AreLimited jobs → AreLimited (drop 1 jobs)
    less [] all = tt
    less (job ∷ jobs) all = all.1

    abbrev Then : Option What → Type 0
    Then s = AreLimited (after_step c w (after, s)).jobs

    limited : IsLive limits c w p → Moved img c p qs shown q rest → Then shown
    limited live (Taken t) =
        subst Then (sym t.shows)
        (live.pending t.row.number (taken_set img c p qs fits after shown q rest is t), live.jobs)
    limited live (Gone one inside silent) =
        subst AreLimited (sym (ap (λ (v : Watch). v.jobs) (silent_seen c after w shown silent)))
        (runs stepped (λ job. refl) w.jobs live.jobs)
    limited live (Opened_one one) =
        subst Then (sym one.shows)
        (runs (λ job. inside_too (entered c after one.section w.steps) (stepped job)) (λ job. refl) w.jobs live.jobs)
    limited live (Closed_one one) =
        subst Then (sym one.shows) (runs (λ job. outside_again (stepped job)) (λ job. refl) w.jobs live.jobs)
    limited live (Served one) = absurd (live.started one.before)
    limited live (Back one) = subst Then (sym one.shows) (less w.jobs live.jobs)

    pub live_on : IsLive limits c w p → q.owner ≢ owner.Starting → Moved img c p qs shown q rest
        → IsLive limits after (after_step c w (after, shown)) q
    live_on live started how = record {
      started = started;
      pending = λ k set. live.pending k (pending_before (pends how) k set);
      jobs = limited live how;
    }

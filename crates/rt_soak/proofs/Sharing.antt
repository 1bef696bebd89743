-- Runs from one number up to another, one by one and worker by worker.
use Rattle.std.proofs.Common.{◌≡◌, ℕ, suc, ◌+◌, ◌*◌, ◌/◌, ◌<◌, ◌≤◌, List, [], ◌∷◌, ◌++◌, length, map, flat_map}
use Rattle.std.proofs.Common.{slice_index_or}
use Rattle.std.proofs.Common.{Ok, Err, add-one, ap, sym, subst, ◌∙◌, append_assoc, arith}
use Rattle.std.specs.List.{AllByRecursion}
use Rattle.std.proofs.Math.Nat.{mul-div_cancel_left, div-le_of_le-mul, div-mul-le_self, mul-le-mul_right, add-mul}
use Rattle.std.proofs.lemmas.Nat.{le-div}
use Rattle.std.proofs.lemmas.List.{append-nil, map-append}
use Rattle.rt_ids.specs.Lists.{numbers_below}
use Rattle.rt_code.specs.Image.{Image}
use Rattle.rt_core.specs.Trace.{trace}
use Rattle.rt_count.specs.Summary.{summary_of}
use Rattle.rt_count.specs.declared.summary.Summary.{Summary}
use Rattle.rt_script.specs.Generated.{generated}
use Rattle.rt_script.specs.Script.{events}
use Rattle.rt_script.specs.declared.line.Line.{Line}
use Rattle.rt_soak.specs.Inside.Sharing.{first_run, run_of, IsShare}
use Rattle.rt_soak.specs.Inside.Totals.{WorkerRuns, IsThere, AreFew, runs_in}
use Rattle.rt_soak.specs.declared.run.Run.{Run}

abbrev pub made_of : ℕ → Summary → Run
made_of run s = record { number = run; summary = s }

-- the first worker begins with the first run
pub first_first : (count workers : ℕ) → first_run count workers 0 ≡ 0
first_first count workers = grind arith

-- the last one ends with the last run
pub last_last : (count workers : ℕ) → 0 < workers → first_run count workers workers ≡ count
last_last count workers some = mul-div_cancel_left count some

-- and none ends before it begins, or behind the last run
pub shares_rise : (count workers worker : ℕ) → 0 < workers
    → first_run count workers worker ≤ first_run count workers (worker + 1)
shares_rise count workers worker some =
    le-div (worker * count / workers) ((worker + 1) * count) workers some
    (omega (arith, div-mul-le_self (worker * count) workers, add-mul worker 1 count))

pub shares_within : (count workers worker : ℕ) → worker ≤ workers → first_run count workers worker ≤ count
shares_within count workers worker within = div-le_of_le-mul workers (mul-le-mul_right count within)

-- a run of a core that has the image
pub run_made : (image fresh : Image) (irqs : List ℕ) (number run : ℕ) (script : List Line) (s : Summary) → fresh ≡ image
    → script ≡ generated irqs number run → s ≡ summary_of 1 (trace fresh (events script))
    → made_of run s ≡ run_of image irqs number run
run_made image fresh irqs number run script s same is counts =
    ap (made_of run)
    (counts ∙ ap (λ (i : Image). summary_of 1 (trace i (events script))) same
    ∙ ap (λ (lines : List Line). summary_of 1 (trace image (events lines))) is)

module _ (f : ℕ → Run) where
  -- one run more
  pub one_more : (first n : ℕ) (runs : List Run) (run : Run) → run ≡ f n
      → map f (numbers_below first) ++ runs ≡ map f (numbers_below n)
      → map f (numbers_below first) ++ (runs ++ run ∷ []) ≡ map f (numbers_below (n + 1))
  unfolding numbers_below
  one_more first n runs run is so_far =
      sym (append_assoc (map f (numbers_below first)) runs (run ∷ []))
      ∙ ap (λ t. t ++ run ∷ []) so_far
      ∙ ap (λ (r : Run). map f (numbers_below n) ++ r ∷ []) is
      ∙ sym (map-append f (numbers_below n) (n ∷ []))
      ∙ ap (λ k. map f (numbers_below k)) (sym (add-one n))

module _ (image : Image) (irqs : List ℕ) (number count workers : ℕ) where
  before : ℕ → List Run
  before worker = map (run_of image irqs number) (numbers_below (first_run count workers worker))

  -- what workers from one on answer are the runs behind those of the workers before
  gathered : (parts : List WorkerRuns) (k : ℕ)
      → ((w : ℕ) (d : WorkerRuns) → w < length parts
      → IsShare image irqs number count workers (k + w) (slice_index_or parts w d))
      → AllByRecursion IsThere parts → before k ++ flat_map runs_in parts ≡ before (k + length parts)
  unfolding before
  gathered [] k each there = append-nil (before k) ∙ ap before (let e : k ≡ k + 0 = omega arith in e)
  gathered (Ok runs ∷ parts) k each there =
      let here : IsShare image irqs number count workers k (Ok runs) =
      subst (λ n. IsShare image irqs number count workers n (Ok runs)) (let e : k + 0 ≡ k = omega arith in e)
      (each 0 (Ok runs) (omega arith)) in
      let mine : before k ++ runs.items ≡ before (k + 1) = here.0 in
      sym (append_assoc (before k) runs.items (flat_map runs_in parts))
      ∙ ap (λ t. t ++ flat_map runs_in parts) mine
      ∙ gathered parts (k + 1)
      (λ w d within. subst (λ n. IsShare image irqs number count workers n (slice_index_or parts w d))
      (let e : k + suc w ≡ k + 1 + w = omega arith in e) (each (suc w) d (omega (arith, within)))) there.1
      ∙ ap before (let e : k + 1 + length parts ≡ k + suc (length parts) = omega arith in e)
  gathered (Err e ∷ parts) k each there = absurd there.0

  -- all of them are all the runs
  pub all_runs : (parts : List WorkerRuns) → 0 < workers → length parts ≡ workers
      → ((w : ℕ) (d : WorkerRuns) → w < workers
      → IsShare image irqs number count workers w (slice_index_or parts w d))
      → AllByRecursion IsThere parts
      → flat_map runs_in parts ≡ map (run_of image irqs number) (numbers_below count)
  unfolding numbers_below before
  all_runs parts some as_many each there =
      ap (λ n. map (run_of image irqs number) (numbers_below n) ++ flat_map runs_in parts)
      (sym (first_first count workers))
      ∙ gathered parts 0 (λ w d within. subst (λ n. IsShare image irqs number count workers n
      (slice_index_or parts w d))
      (let e : w ≡ 0 + w = omega arith in e) (each w d (omega (arith, within, as_many)))) there
      ∙ ap (λ n. map (run_of image irqs number) (numbers_below (first_run count workers n)))
      (let e : 0 + length parts ≡ workers = omega (arith, as_many) in e)
      ∙ ap (λ n. map (run_of image irqs number) (numbers_below n)) (last_last count workers some)

  -- and few
  pub few_in : (part : WorkerRuns) (w : ℕ) → IsShare image irqs number count workers w part → AreFew part
  few_in (Ok runs) w share = (share.1, share.2)
  few_in (Err e) w share = tt

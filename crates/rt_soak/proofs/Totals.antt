-- What all runs count up to.
use Rattle.std.proofs.Common.{◌≡◌, ℕ, zero, suc, List, [], ◌∷◌, ◌++◌, map, flat_map, refl, ap, sym, ◌∙◌, add-one}
use Rattle.std.proofs.Common.{Result, Ok, Err, IfOk}
use Rattle.std.proofs.lemmas.Grind.{flat_map-append}
use Rattle.std.proofs.lemmas.List.{append-nil, map-append}
use Rattle.std.proofs.lemmas.List.Sums.{fold_push}
use Rattle.rt_ids.specs.Lists.{numbers_below}
use Rattle.rt_code.specs.Image.{Image}
use Rattle.rt_trace.specs.declared.item.Item.{Item}
use Rattle.rt_count.specs.Joining.{joined_summary}
use Rattle.rt_count.specs.Summary.{summary_of}
use Rattle.rt_count.specs.declared.summary.Summary.{Summary}
use Rattle.rt_count.proofs.Items.{summary-append}
use Rattle.rt_soak.specs.Soak.{items_of_run, soak_summary}
use Rattle.rt_soak.specs.Inside.Sharing.{run_of}
use Rattle.rt_soak.specs.Inside.Totals.{summary_with_runs}
use Rattle.rt_soak.specs.declared.run.Run.{Run}

pub total_is : (image : Image) (irqs : List ℕ) (number count : ℕ)
    → summary_with_runs (summary_of 0 []) (map (run_of image irqs number) (numbers_below count))
    ≡ soak_summary image irqs number count
unfolding numbers_below
total_is image irqs number zero = refl
total_is image irqs number (suc n) =
    let f : ℕ → Run = run_of image irqs number in
    let shown : ℕ → List Item = items_of_run image irqs number in
    let front : List Item = flat_map shown (numbers_below n) in
    ap (summary_with_runs (summary_of 0 [])) (map-append f (numbers_below n) (n ∷ []))
    ∙ fold_push (λ (before : Summary) (run : Run). joined_summary before run.summary) (summary_of 0 [])
    (map f (numbers_below n)) (f n)
    ∙ ap (λ (s : Summary). joined_summary s (summary_of 1 (shown n))) (total_is image irqs number n)
    ∙ summary-append n 1 front (shown n)
    ∙ ap (λ k. summary_of k (front ++ shown n)) (add-one n)
    ∙ ap (λ t. summary_of (suc n) (front ++ t)) (sym (append-nil (shown n)))
    ∙ ap (summary_of (suc n)) (sym (flat_map-append shown (numbers_below n) (n ∷ [])))

-- what follows from two facts on an answer
pub if_ok_both : {A E : Type 0} (r : Result A E) (P Q R : A → Type 0) → ((x : A) → P x → Q x → R x) → IfOk r P
    → IfOk r Q → IfOk r R
if_ok_both (Ok x) P Q R f p q = f x p q
if_ok_both (Err e) P Q R f p q = p

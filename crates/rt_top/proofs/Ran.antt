-- How a command ends that writes what comes before a trace, and then what an image shows.
use Rattle.std.proofs.Common.{ℕ, List, ◌++◌, inl, inr, refl}
use Rattle.rt_ids.specs.declared.status.Status.{Status}
use Rattle.rt_ids.specs.declared.status.Status.TheVariants as status
use Rattle.rt_outside.specs.Bytes.{Took, TookPrefix}
use Rattle.rt_outside.specs.Faults.{Rose}
use Rattle.rt_run.proofs.Taking.{took_on, part_more, part_on}
use Rattle.rt_top.specs.Inside.Decides.{EndsAs}

module _ (P : Status → List ℕ → Type 0) (front shown : List ℕ) (is : P status.Done (front ++ shown))
    (before mid after : List ℕ) (fb fa : ℕ) where
  -- all was written
  pub all_ends : Took before mid front → Took mid after shown → EndsAs P before after fb fa status.Done
  all_ends first rest =
      inl (status.Done, front ++ shown, is, inl (refl, took_on before mid after front shown first rest))

  -- the sink failed in what is shown, or before it
  pub part_ends : Rose fb fa → Took before mid front → TookPrefix mid after shown
      → EndsAs P before after fb fa status.Write
  part_ends rose first rest =
      inl (status.Done, front ++ shown, is, inr (refl, rose, part_on before mid after front shown first rest))

  pub front_ends : Rose fb fa → TookPrefix before after front → EndsAs P before after fb fa status.Write
  front_ends rose part =
      inl (status.Done, front ++ shown, is, inr (refl, rose, part_more before after front shown part))

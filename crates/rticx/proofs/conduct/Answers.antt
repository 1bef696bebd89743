use Rattle.std.proofs.Common.{◌≡◌, ◌⊎◌, ℕ, inl, inr, ap, ◌∙◌}
use Rattle.rt_ids.specs.Status.{exit_status}
use Rattle.rt_ids.specs.declared.status.Status.{Status}
use Rattle.rt_ids.specs.declared.status.Status.TheVariants as status
use Rattle.rticx.proofs.conduct.Goals as goal

-- a status that is one of two has the number of one of them
numbered : (exit : ℕ) (ended due : Status) → exit ≡ exit_status ended → (ended ≡ due) ⊎ (ended ≡ status.Memory)
    → (exit ≡ exit_status due) ⊎ (exit ≡ exit_status status.Memory)
numbered exit ended due is (inl same) = inl (is ∙ ap exit_status same)
numbered exit ended due is (inr same) = inr (is ∙ ap exit_status same)

pub returns-clause-complete : goal.returns-clause-complete
returns-clause-complete g c command due named is no_first no_second no_third no_sink =
    numbered _ c.rticx-status.result due c.exit_code.ensures
    (c.rticx-status.ensures.complete command due named is no_first no_second no_third no_sink)

-- A controller in which nothing is enabled.
use Rattle.std.proofs.Common.{◌≡◌, ℕ, Option, None, replicate, slice_index_or, ⊎_elim, arith}
use Rattle.std.proofs.lemmas.Bool.{cases_lt}
use Rattle.std.proofs.lemmas.List.{length-replicate, get_or-replicate, get_or_past}

pub none_enabled : (n irq : ℕ) → slice_index_or (replicate {A = Option ℕ} n None) irq None ≡ None
none_enabled n irq =
    ⊎_elim (λ l. get_or-replicate n irq None None l)
    (λ more. get_or_past (replicate {A = Option ℕ} n None) irq None
    (omega (arith, more, length-replicate {A = Option ℕ} n None))) (cases_lt irq n)

-- What follows from the lengths of the arrays.
use Rattle.std.proofs.Common.{◌≡◌, ℕ, ◌<◌, ◌≤◌, false, List, length, drop, Option, sym, ap, ◌∙◌, ⊎_elim, arith}
use Rattle.std.proofs.Math.ListN.{drop_of_length-le}
use Rattle.std.proofs.lemmas.Bool.{cases_lt, false≢true}
use Rattle.std.proofs.lemmas.List.{length-drop, get_or_past}
use Rattle.rt_ids.specs.declared.limits.TheConstants.{IRQ_NUMBERS, THREAD_VALUE}
use Rattle.rt_nvic.specs.declared.sizes.TheConstants.{ACTIVE}
use Rattle.rt_nvic.specs.Nvic.{Nvic, IsSized, IsReady, value_of_running, value_of_first}
use Rattle.rt_nvic.specs.Inside.Bits.{flags}
use Rattle.rt_nvic.specs.Inside.Fields.{IsFixed}
use Rattle.rt_nvic.proofs.Flags.{length-flags}

abbrev pub shown : List (Option ℕ) → List ℕ → List ℕ → ℕ → Nvic
shown priorities pending active top =
    record { priorities = priorities; pending = flags pending; active = drop top active }

pub sized : (priorities : List (Option ℕ)) (pending active : List ℕ) (top : ℕ) → IsFixed priorities pending active top
    → IsSized (shown priorities pending active top)
sized priorities pending active top is =
    let l = is.active_long in
    let e = length-drop top active in record {
      priorities = is.priorities_long;
      pending = length-flags pending;
      active =
          omega arith;
    }

-- where no handler runs
pub none_runs : (priorities : List (Option ℕ)) (pending active : List ℕ) (top : ℕ)
    → IsFixed priorities pending active top → top ≡ ACTIVE → THREAD_VALUE
    ≡ value_of_running (shown priorities pending active top)
none_runs priorities pending active top is e =
    let l = is.active_long in
    let low : length active ≤ top = omega arith in
    sym (ap (value_of_first (shown priorities pending active top)) (drop_of_length-le active low))

-- an interrupt that is ready has a number in range
pub number_of_ready : (n : Nvic) (exec irq : ℕ) → IsSized n → IsReady n exec irq → irq < IRQ_NUMBERS
number_of_ready n exec irq is ready =
    let l = is.pending in
    ⊎_elim
    (λ less. less)
    (λ more. absurd (false≢true (sym (get_or_past n.pending irq false (omega arith)) ∙ ready.pending)))
    (cases_lt irq IRQ_NUMBERS)

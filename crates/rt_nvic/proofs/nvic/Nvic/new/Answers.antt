use Rattle.std.proofs.Common.{ℕ, ◌≤◌, Bool, false, List, drop, length, replicate, Option, None, ap, ◌∙◌, arith}
use Rattle.std.proofs.Common.{drop_of_length-le}
use Rattle.std.proofs.lemmas.List.{length-replicate}
use Rattle.rt_ids.specs.declared.limits.TheConstants.{IRQ_NUMBERS}
use Rattle.rt_nvic.specs.Nvic.{Nvic}
use Rattle.rt_nvic.specs.declared.sizes.TheConstants.{ACTIVE}
use Rattle.rt_nvic.proofs.Flags.{flags_none}
use Rattle.rt_nvic.proofs.Taking.{kept_cleared}
use Rattle.rt_nvic.proofs.nvic.Nvic.new.Goals as goal

pub invariant_of-result : goal.invariant_of-result
invariant_of-result c =
    let none : List (Option ℕ) = replicate IRQ_NUMBERS None in
    let active : List ℕ = replicate ACTIVE c.in-Some.irq in
    kept_cleared none active (length-replicate {A = Option ℕ} IRQ_NUMBERS None)
    (length-replicate ACTIVE c.in-Some.irq)

pub returns : goal.returns
returns c =
    let active : List ℕ = replicate ACTIVE c.in-Some.irq in
    let made : List Bool → List ℕ → Nvic =
    λ pending active. record { priorities = replicate IRQ_NUMBERS None; pending = pending; active = active } in
    let long = length-replicate ACTIVE c.in-Some.irq in
    let all : length active ≤ ACTIVE = omega arith in
    ap (λ (pending : List Bool). made pending (drop ACTIVE active)) flags_none
    ∙ ap (made (replicate IRQ_NUMBERS false)) (drop_of_length-le active all)

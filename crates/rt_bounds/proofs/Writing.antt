-- How a counter is changed.
use Rattle.std.proofs.Common.{◌≡◌, ℕ, sym, subst, ◌∙◌}
use Rattle.rt_ids.specs.declared.op.Op.TheVariants as op
use Rattle.rt_code.specs.declared.instr.Instr.{Instr}
use Rattle.rt_code.specs.declared.instr.Instr.TheVariants as instr
use Rattle.rt_bounds.specs.Counting.{Changes, Adds, AddsTo, Subtracts}
use Rattle.rt_bounds.specs.declared.counting.Direction.TheVariants.{Rises, Falls}

pub adds : (counter to one by : ℕ) (i : Instr) → i ≡ instr.Calc op.Add to one by → to ≡ counter → one ≡ counter
    → Changes counter by i Rises
adds counter to one by i is first second =
    subst (λ (j : Instr). Changes counter by j Rises) (sym (is ∙ (λ k. instr.Calc op.Add (first k) (second k) by))) Adds

pub adds_to : (counter to by one : ℕ) (i : Instr) → i ≡ instr.Calc op.Add to by one → to ≡ counter → one ≡ counter
    → Changes counter by i Rises
adds_to counter to by one i is first second =
    subst (λ (j : Instr). Changes counter by j Rises) (sym (is ∙ (λ k. instr.Calc op.Add (first k) by (second k)))) AddsTo

pub subtracts : (counter to one by : ℕ) (i : Instr) → i ≡ instr.Calc op.Sub to one by → to ≡ counter → one ≡ counter
    → Changes counter by i Falls
subtracts counter to one by i is first second =
    subst (λ (j : Instr). Changes counter by j Falls) (sym (is ∙ (λ k. instr.Calc op.Sub (first k) (second k) by)))
    Subtracts

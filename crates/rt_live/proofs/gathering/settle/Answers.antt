use Rattle.rt_live.proofs.Vocabulary.{ap, bit_in_row, get_or, length, pending_bit, rules, settled_row, ℕ, ◌%◌, ◌/◌, ◌<◌}
use Rattle.rt_live.proofs.Vocabulary.{◌∙◌, ◌≡◌}
use Rattle.std.proofs.lemmas.Nat.Bits.{shr_and_one}
use Rattle.rt_lemmas.proofs.Rows.{changed}
use Rattle.rt_live.specs.declared.account.AccountRow.{AccountRow}
use Rattle.rt_live.proofs.gathering.settle.Goals as goal

pub loop-row-preserved : goal.loop-row-preserved
loop-row-preserved c =
    let bits = c.args.bits.now in
    let core = c.args.core in
    let i : ℕ = c.loop-row.row-index in
    let rows = c.loop-row.rows in
    let old = c.args.rows.now in
    let within : i < length old = search rules in
    let x : AccountRow = get_or rows i c.row-item.result in
    let bit = c.bit_in_row-bit.result in
    let left : c.from-row.result ≡ pending_bit bits (bit_in_row core x.irq) =
    c.from-row.ensures
    ∙ shr_and_one (get_or bits (bit / 32) 0) (bit % 32)
    ∙ ap (pending_bit bits) c.bit_in_row-bit.ensures.is in
    changed (settled_row core bits) rows old i within c.loop-row.invariant c.row-item.result _
    (λ k. record { irq = x.irq; raised = x.raised; merged = x.merged; latched = x.latched; left = left k })

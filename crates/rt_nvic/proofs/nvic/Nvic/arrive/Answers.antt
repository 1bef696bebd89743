use Rattle.std.proofs.Common.{◌≡◌, ℕ, ◌+◌, ◌*◌, ◌^◌, ◌<◌, length, List, Bool, true, false, get_or, set, sym, ap}
use Rattle.std.proofs.Common.{◌∙◌, arith}
use Rattle.std.specs.Int.{bit_at}
use Rattle.rt_nvic.specs.Nvic.{Nvic, is_pending}
use Rattle.rt_ids.specs.Arrivals.{arrivals_below, pending_with}
use Rattle.rt_nvic.proofs.Arriving.{pended_none, pended_next, pended_all}
use Rattle.rt_nvic.proofs.Flags.{length-flags}
use Rattle.rt_nvic.proofs.Lowest.{lowest, is_set_from, within_from}
use Rattle.rt_nvic.proofs.Pending.{each}
use Rattle.rt_nvic.proofs.nvic.Nvic.arrive.Goals as goal

pub loop-from-init : goal.loop-from-init
loop-from-init c = record {
  within = omega arith;
  state = ap (λ (p : List Bool). record c.args.self.now { pending = p })
      (sym (pended_none c.args.k c.args.bits c.args.self.now.pending));
}

pub post_number-requires : goal.post_number-requires
post_number-requires c =
    let word = c.from-word.result in
    let from = c.loop-from.from in
    let e : word ≡ c.args.bits = c.from-word.ensures in
    let fits = c.ranges.bits.fits in
    let low : word < 2 ^ 32 = omega arith in
    let some = c.loop-from-test.true in
    let within : from + lowest word from < 32 = within_from word from 32 low (omega arith) some in
    let one = ap (λ (w : ℕ). bit_at w (from + lowest word from)) (sym e)
    ∙ is_set_from word from 32 low (omega arith) some in
    let number = c.requires.in_range (from + lowest word from) within one in
    let same = c.from.ensures in
    omega arith

pub loop-from-preserved : goal.loop-from-preserved
loop-from-preserved c =
    let word = c.from-word.result in
    let from = c.loop-from.from in
    let bit : ℕ = from + lowest word from in
    let e : word ≡ c.args.bits = c.from-word.ensures in
    let fits = c.ranges.bits.fits in
    let low : word < 2 ^ 32 = omega arith in
    let some = c.loop-from-test.true in
    let within : from + lowest word from < 32 = within_from word from 32 low (omega arith) some in
    let pending = c.args.self.now.pending in
    let before = pending_with (arrivals_below c.args.k c.args.bits from) pending in
    record {
      within = omega arith;
      state = c.post_number.ensures
          ∙ ap (λ (n : Nvic). record n { pending = set n.pending (32 * c.from.result + bit) true })
          c.loop-from.invariant.state
          ∙ ap (λ (k : ℕ). record c.args.self.now { pending = set before (32 * k + bit) true }) c.from.ensures
          ∙ ap (λ (p : List Bool). record c.args.self.now { pending = p })
          (sym (pended_next c.args.k c.args.bits word from pending e low some));
    }

pub returns-clause-state : goal.returns-clause-state
returns-clause-state c =
    c.loop-from.invariant.state
    ∙ ap (λ (p : List Bool). record c.args.self.now { pending = p })
    (sym (pended_all c.args.k c.args.bits c.from-word.result c.loop-from.from c.args.self.now.pending
    c.from-word.ensures c.loop-from-test.false c.loop-from.invariant.within))

pub returns-clause-each : goal.returns-clause-each
returns-clause-each c = λ irq low.
    let pending = c.args.self.now.pending in
    let long = sym (ap (λ (n : Nvic). length n.pending) c.self.view_is) ∙ length-flags c.self.inside.pending in
    ap (λ (n : Nvic). is_pending n irq) c.loop-from.invariant.state
    ∙ ap (λ (p : List Bool). get_or p irq false)
    (sym (pended_all c.args.k c.args.bits c.from-word.result c.loop-from.from pending c.from-word.ensures
    c.loop-from-test.false c.loop-from.invariant.within))
    ∙ each c.args.k c.args.bits irq pending (omega arith)

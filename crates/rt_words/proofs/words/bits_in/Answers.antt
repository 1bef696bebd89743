use Rattle.std.proofs.Common.{ℕ, ◌^◌, ◌<◌, subst, arith}
use Rattle.std.proofs.Math.Facts.{Fits-of_lt}
use Rattle.std.specs.Mem.Slots.{slots_items, slots_counts}
use Rattle.rt_words.proofs.Closing.{element, copied_none, copied_more, copied_all}
use Rattle.rt_words.proofs.words.bits_in.Goals as goal

pub overflow_cast-bits : goal.overflow_cast-bits
overflow_cast-bits c = Fits-of_lt (subst (λ (n : ℕ). n < 2 ^ 32)
    (element (slots_items c.args.closed.words) c.loop-k.k c.word.result c.word.ensures) (c.requires.low c.loop-k.k))

pub loop-k-init : goal.loop-k-init
loop-k-init c = copied_none (slots_items c.args.closed.words)

pub loop-k-preserved : goal.loop-k-preserved
loop-k-preserved c =
    let l = c.requires.short in
    let t = c.loop-k-test.true in
    let e = c.len-k-end.ensures in
    copied_more (slots_items c.args.closed.words) c.loop-k.bits c.loop-k.k c.word.result c.loop-k.invariant
    (omega arith) c.word.ensures

pub returns : goal.returns
returns c =
    let l = c.requires.short in
    let t = c.loop-k-test.false in
    let e = c.len-k-end.ensures in
    let a = c.loop-k.auto.k-end in
    let n = (slots_counts c.args.closed.words).0 in
    copied_all (slots_items c.args.closed.words) c.loop-k.bits c.loop-k.k c.loop-k.invariant (omega arith) (omega arith)

use Rattle.std.proofs.Common.{◌<◌, ap, arith, ◌∙◌}
use Rattle.rt_app.specs.View.{app_of}
use Rattle.rt_words.specs.Lines.{Line}
use Rattle.rt_inputs.specs.Inside.Ran.{moment}
use Rattle.rt_live_inputs.proofs.Looked.{row_all, row_bits, row_calls, row_can, row_more, row_none, row_skips}
use Rattle.rt_live_inputs.proofs.looking.look_at_row.Goals as goal

pub loop-k-init : goal.loop-k-init
loop-k-init g c =
    row_none (app_of c.args.app.now) c.args.board.now c.args.going.now.went c.args.line.now
    (moment c.args.core.now c.args.going.now.registers) _ _

pub latch-found-requires-clause-words : goal.latch-found-requires-clause-words
latch-found-requires-clause-words g c =
    ap (λ (l : Line). l.words) c.loop-k.invariant.line_is ∙ c.requires.latches.words

pub latch-found-requires-clause-first : goal.latch-found-requires-clause-first
latch-found-requires-clause-first g c =
    omega (arith, ap (λ (l : Line). l.here) c.loop-k.invariant.line_is, c.first_word-first.ensures)

pub latch-found-requires-clause-room : goal.latch-found-requires-clause-room
latch-found-requires-clause-room g c =
    omega (arith, row_calls c.loop-k.invariant, c.requires.latches.room)

pub latch-found-requires-clause-word : goal.latch-found-requires-clause-word
latch-found-requires-clause-word g c =
    let k_below : c.loop-k.k < 16 = omega arith in
    omega (
      arith,
      k_below,
      ap (λ (l : Line). l.here) c.loop-k.invariant.line_is,
      c.requires.latches.here,
      c.requires.latches.many,
    )

pub arrive_word-requires-clause-can : goal.arrive_word-requires-clause-can
arrive_word-requires-clause-can g c = row_can c.loop-k.invariant 1 c.requires.can

pub arrive_word-requires-clause-may : goal.arrive_word-requires-clause-may
arrive_word-requires-clause-may g c =
    row_bits c.loop-k.invariant c.requires.latches (omega arith) c.latch-found.result c.latch-found.ensures.may

pub loop-k-preserved-then-found-eq0 : goal.loop-k-preserved-then-found-eq0
loop-k-preserved-then-found-eq0 g c =
    row_skips c.loop-k.invariant c.requires.latches (omega arith) c.latch-found.result c.latch-found.ensures.may _
    c.latch-found.ensures.call c.if-found-eq0.true

pub loop-k-preserved : goal.loop-k-preserved
loop-k-preserved g c =
    row_more c.loop-k.invariant c.requires.latches (omega arith) c.latch-found.result c.latch-found.ensures.may _
    c.latch-found.ensures.call c.arrive_word.ensures

pub returns : goal.returns
returns g c = row_all c.loop-k.invariant (omega arith)

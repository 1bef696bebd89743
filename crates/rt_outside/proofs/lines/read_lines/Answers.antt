use Rattle.std.proofs.Common.{◌≤◌, ◌+◌, ◌-◌, ◌++◌, ℕ, List, length, take, vec_len, arith, ap, ◌∙◌, sym, subst}
use Rattle.std.proofs.Common.{length-take-le}
use Rattle.rt_outside.specs.Bytes.{given_since}
use Rattle.rt_outside.specs.Lines.{HasHanded}
use Rattle.rt_outside.specs.Inside.Handed.{HoldsLast}
use Rattle.rt_outside.proofs.Handing.{handed_text, handed_piece}
use Rattle.rt_outside.proofs.Giving.{given_since-read, has_given_more}
use Rattle.rt_outside.proofs.Moving.{length-moved, take-front}
use Rattle.rt_outside.proofs.lines.read_lines.Goals as goal

pub returns-in_err-moved-clause-fault_handed : goal.returns-in_err-moved-clause-fault_handed
returns-in_err-moved-clause-fault_handed g c =
    λ _. rw c.in_err-moved.ensures.none_given
    (handed_text (g.L.LineSink.came c.loop-turn.sink) _ c.loop-turn.held.items c.loop-turn.count
    c.loop-turn.invariant.holds)

pub returns-then-taken-most-clause-long_handed : goal.returns-then-taken-most-clause-long_handed
returns-then-taken-most-clause-long_handed g c =
    let past = g.S.Source.past in
    let came = g.L.LineSink.came c.loop-turn.sink in
    let piece = take c.in_ok-moved.moved c.read.new.buffer in
    let more = given_since-read (past c.args.source.now) (past c.loop-turn.source) (past c.read.new.self) piece _
    c.loop-turn.invariant.given.grew c.in_ok-moved.ensures.given in
    λ _. subst (λ (text : List ℕ). HasHanded came text) (sym more)
    (handed_piece came _ c.loop-turn.held.items piece c.loop-turn.count c.loop-turn.invariant.holds)

pub returns-in_err-count-clause-given : goal.returns-in_err-count-clause-given
returns-in_err-count-clause-given g c =
    has_given_more g.S.Source.past g.S.Source.left c.args.source.now c.loop-turn.source c.read.new.self
    c.read.new.buffer c.in_ok-moved.moved _ c.loop-turn.invariant.given c.in_ok-moved.ensures.given
    c.in_ok-moved.ensures.moved

pub loop-turn-preserved : goal.loop-turn-preserved
loop-turn-preserved g c =
    let moved = c.in_ok-moved.moved in
    let buffer = c.read.new.buffer in
    let past = g.S.Source.past in
    let text = given_since (past c.args.source.now) (past c.loop-turn.source) in
    let room : length buffer ≤ c.args.limit + 1 - c.loop-turn.taken =
    omega (arith, c.slice_mut.ensures.len, c.min-room.ensures, c.len.ensures, c.read.auto.buffer) in
    let size : length buffer ≤ vec_len c.loop-turn.piece =
    omega (arith, c.slice_mut.ensures.len, c.min-room.ensures, c.len.ensures, c.read.auto.buffer) in
    let fits : moved ≤ length buffer = omega (arith, c.in_ok-moved.ensures.within, c.read.auto.buffer) in
    let within : moved ≤ c.loop-turn.piece.len = omega (arith, size, fits) in
    let front = take-front moved c.loop-turn.piece.len c.deref-in-loop-turn.result.now buffer _ _
    c.deref-in-loop-turn.ensures.value fits within in
    let more = given_since-read (past c.args.source.now) (past c.loop-turn.source) (past c.read.new.self)
    (take moved buffer) _ c.loop-turn.invariant.given.grew c.in_ok-moved.ensures.given in
    let holds = c.in_ok-count.ensures.holds text c.loop-turn.invariant.holds in
    record {
      paced = omega (arith, c.loop-turn.invariant.paced, c.if-moved-eq0.false);
      within = omega (arith, room, fits, c.if-taken-most.false, c.loop-turn.invariant.within);
      buffer = c.loop-turn.invariant.buffer;
      few = omega (
        arith,
        c.in_ok-count.ensures.few,
        c.loop-turn.invariant.few,
        ap length front,
        length-take-le moved buffer fits,
      );
      given =
          has_given_more past g.S.Source.left c.args.source.now c.loop-turn.source c.read.new.self buffer moved _
          c.loop-turn.invariant.given c.in_ok-moved.ensures.given c.in_ok-moved.ensures.moved;
      long = omega (arith, ap length more, length-moved text buffer moved fits, c.loop-turn.invariant.long);
      holds = subst (λ (bytes : List ℕ). HoldsLast (g.L.LineSink.came c.give_piece.new.sink) bytes
          c.give_piece.new.held.items c.in_ok-count.count) (ap (λ (bytes : List ℕ). text ++ bytes) front ∙ sym more)
          holds;
      quiet = c.in_ok-moved.ensures.quiet ∙ c.loop-turn.invariant.quiet;
    }

use Rattle.std.proofs.Common.{◌≡◌, ◌≤◌, ◌+◌, ◌-◌, ◌++◌, ℕ, List, length, take, vec_len, arith, ap, sym, ◌∙◌}
use Rattle.std.proofs.Common.{length-take-le}
use Rattle.rt_lemmas.proofs.Results.{on_err_from}
use Rattle.rt_outside.specs.Bytes.{given_since}
use Rattle.rt_outside.proofs.Giving.{given_since-read, has_given_more}
use Rattle.rt_outside.proofs.Moving.{length-moved, take-front}
use Rattle.rt_outside.proofs.source.read_text.Goals as goal

pub returns-in_err-extend_from_slice-clause-given : goal.returns-in_err-extend_from_slice-clause-given
returns-in_err-extend_from_slice-clause-given g c =
    has_given_more g.S.Source.past g.S.Source.left c.args.source.now c.loop-turn.source c.read.new.self
    c.read.new.buffer c.in_ok-count.count _ c.loop-turn.invariant.given c.in_ok-count.ensures.given
    c.in_ok-count.ensures.moved

pub returns-in_err-extend_from_slice-clause-not_longer : goal.returns-in_err-extend_from_slice-clause-not_longer
returns-in_err-extend_from_slice-clause-not_longer g c =
    let text = c.loop-turn.text.items in
    let count = c.in_ok-count.count in
    let buffer = c.read.new.buffer in
    let past = g.S.Source.past in
    let room : length buffer ≤ c.args.limit + 1 - vec_len c.loop-turn.text =
    omega (arith, c.slice_mut.ensures.len, c.min-room.ensures, c.len-in-loop-turn.ensures, c.read.auto.buffer) in
    let fits : count ≤ length buffer = omega (arith, c.in_ok-count.ensures.within, c.read.auto.buffer) in
    let more = given_since-read (past c.args.source.now) (past c.loop-turn.source) (past c.read.new.self)
    (take count buffer) _ c.loop-turn.invariant.given.grew c.in_ok-count.ensures.given in
    let whole : text ++ take count buffer ≡ given_since (past c.args.source.now) (past c.read.new.self) =
    ap (λ (bytes : List ℕ). bytes ++ take count buffer) c.loop-turn.invariant.text ∙ sym more in
    let short : length (given_since (past c.args.source.now) (past c.read.new.self)) ≤ c.args.limit = omega (
      arith,
      room,
      fits,
      length-moved text buffer count fits,
      ap length whole,
      c.loop-turn.text.ok.0,
      c.if-len-count.false,
      c.len-in-loop-turn-2.ensures,
      c.loop-turn.invariant.within,
    ) in
    on_err_from c.from_residual-in_err-extend_from_slice.result (λ _. short)

pub loop-turn-preserved : goal.loop-turn-preserved
loop-turn-preserved g c =
    let text = c.loop-turn.text.items in
    let count = c.in_ok-count.count in
    let buffer = c.read.new.buffer in
    let past = g.S.Source.past in
    let room : length buffer ≤ c.args.limit + 1 - vec_len c.loop-turn.text =
    omega (arith, c.slice_mut.ensures.len, c.min-room.ensures, c.len-in-loop-turn.ensures, c.read.auto.buffer) in
    let size : length buffer ≤ vec_len c.loop-turn.piece =
    omega (arith, c.slice_mut.ensures.len, c.min-room.ensures, c.len.ensures, c.read.auto.buffer) in
    let fits : count ≤ length buffer = omega (arith, c.in_ok-count.ensures.within, c.read.auto.buffer) in
    let within : count ≤ c.loop-turn.piece.len = omega (arith, size, fits) in
    let front = take-front count c.loop-turn.piece.len c.deref.result.now buffer _ _ c.deref.ensures.value fits
    within in
    let added : c.extend_from_slice.new.self.items ≡ text ++ take count buffer =
    rw (c.in_ok-extend_from_slice.ensures.items, front) in
    let grown : vec_len c.extend_from_slice.new.self ≡ vec_len c.loop-turn.text + count =
    omega (arith, c.in_ok-extend_from_slice.ensures.len, ap length front, length-take-le count buffer fits) in
    let more = given_since-read (past c.args.source.now) (past c.loop-turn.source) (past c.read.new.self)
    (take count buffer) _ c.loop-turn.invariant.given.grew c.in_ok-count.ensures.given in
    record {
      paced = omega (arith, grown, c.loop-turn.invariant.paced, c.if-count-eq0.false);
      within = omega (
        arith,
        grown,
        room,
        fits,
        c.if-len-count.false,
        c.len-in-loop-turn-2.ensures,
        c.loop-turn.invariant.within,
      );
      buffer = c.loop-turn.invariant.buffer;
      given =
          has_given_more past g.S.Source.left c.args.source.now c.loop-turn.source c.read.new.self buffer count _
          c.loop-turn.invariant.given c.in_ok-count.ensures.given c.in_ok-count.ensures.moved;
      text = added ∙ ap (λ (bytes : List ℕ). bytes ++ take count buffer) c.loop-turn.invariant.text ∙ sym more;
      quiet = c.in_ok-count.ensures.quiet ∙ c.loop-turn.invariant.quiet;
    }

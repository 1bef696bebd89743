use Rattle.std.proofs.Common.{◌≤◌, length, take, drop, arith, ◌∙◌, length-drop}
use Rattle.std.proofs.lemmas.List.{take-append-drop}
use Rattle.rt_lemmas.proofs.Results.{on_err_from}
use Rattle.rt_outside.proofs.Moving.{Took-more}
use Rattle.rt_outside.proofs.sink.put_all.Goals as goal

pub returns-in_err-done-clause-err : goal.returns-in_err-done-clause-err
returns-in_err-done-clause-err g c =
    let done = c.loop-turn.done in
    let bytes = c.args.bytes.now in
    let short : 1 ≤ length (drop done bytes) =
    omega (arith, length-drop done bytes, c.loop-turn.invariant.within) in
    on_err_from c.from_residual.result (
      take done bytes,
      (drop done bytes, short, take-append-drop done bytes),
      rw c.in_err-done.ensures.err c.loop-turn.invariant.took,
    )

pub loop-turn-preserved : goal.loop-turn-preserved
loop-turn-preserved g c = record {
  paced = omega (arith, length-drop c.loop-turn.done c.args.bytes.now, c.in_ok-done.ensures.some);
  within = omega (arith, length-drop c.loop-turn.done c.args.bytes.now, c.in_ok-done.ensures.within);
  took =
      Took-more _ _ _ c.args.bytes.now c.loop-turn.done c.in_ok-done.field-0
      c.loop-turn.invariant.took c.in_ok-done.ensures.took;
  quiet = c.in_ok-done.ensures.quiet ∙ c.loop-turn.invariant.quiet;
}

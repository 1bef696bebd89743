use Rattle.rt_live.proofs.Vocabulary.{Arrive, Sends, arith, arrivals_below, map, refl, still_writable, subst, sym, ◌/◌}
use Rattle.rt_live.proofs.Vocabulary.{◌^◌, ◌∙◌, ◌≡◌}
use Rattle.std.proofs.lemmas.Nat.{and_mask}
use Rattle.rt_live.proofs.{Looking.bit_cut, Looking.bit_more, Looking.bit_none, Looking.bit_skips, Turning.gave_up}
use Rattle.rt_live.proofs.{Woven.no_steps}
use Rattle.rt_live.proofs.turns.arrive_word.Goals as goal

pub loop-bit-init : goal.loop-bit-init
loop-bit-init g c = record { run = bit_none c.args.word c.args.found c.args.core.now _; quiet = refl }

pub send_pend-requires-clause-writable : goal.send_pend-requires-clause-writable
send_pend-requires-clause-writable g c =
    still_writable (map Arrive (arrivals_below c.args.word c.args.found c.loop-bit.bit)) c.args.core.now _
    c.loop-bit.invariant.run.leads c.requires.writable

pub send_pend-requires-clause-few : goal.send_pend-requires-clause-few
send_pend-requires-clause-few g c = omega (
  arith,
  c.loop-bit.invariant.run.leads.steps,
  no_steps (arrivals_below c.args.word c.args.found c.loop-bit.bit),
  c.requires.few,
)

pub loop-bit-preserved-then-found-bit-ne1 : goal.loop-bit-preserved-then-found-bit-ne1
loop-bit-preserved-then-found-bit-ne1 g c = record {
  run =
      subst (λ is. Sends (map Arrive is) c.args.core.now c.loop-bit.core (g.K.Sink.taken c.args.out.now)
      (g.K.Sink.taken c.loop-bit.out)) (sym (bit_skips c.args.word c.args.found c.loop-bit.bit
      (λ is. c.if-found-bit-ne1.true (and_mask (c.args.found / 2 ^ c.loop-bit.bit) 1 ∙ is)))) c.loop-bit.invariant.run;
  quiet = c.loop-bit.invariant.quiet;
}

pub returns-in_err-send_pend-clause-comes : goal.returns-in_err-send_pend-clause-comes
returns-in_err-send_pend-clause-comes g c =
    rw (gave_up _ c.from_residual.result c.from_residual.ensures.1)
    (bit_cut c.args.word c.args.found c.loop-bit.bit c.in-Some.irq
    (sym (and_mask (c.args.found / 2 ^ c.loop-bit.bit) 1) ∙ c.if-found-bit-ne1.false)
    (omega (arith, c.in-Some.ensures.value, c.from.ensures)) c.args.core.now c.loop-bit.core c.send_pend.new.core _ _ _
    c.loop-bit.invariant.run (omega arith) c.in_err-send_pend.ensures.err)

pub loop-bit-preserved : goal.loop-bit-preserved
loop-bit-preserved g c = record {
  run =
      bit_more c.args.word c.args.found c.loop-bit.bit c.in-Some.irq
      (sym (and_mask (c.args.found / 2 ^ c.loop-bit.bit) 1) ∙ c.if-found-bit-ne1.false)
      (omega (arith, c.in-Some.ensures.value, c.from.ensures)) c.args.core.now c.loop-bit.core c.send_pend.new.core
      _ _ _ c.loop-bit.invariant.run c.in_ok-send_pend.ensures.ok;
  quiet = c.in_ok-send_pend.ensures.quiet ∙ c.loop-bit.invariant.quiet;
}

pub returns-clause-comes : goal.returns-clause-comes
returns-clause-comes g c =
    let all : c.loop-bit.bit ≡ 32 = omega arith in
    subst (λ n. Sends (map Arrive (arrivals_below c.args.word c.args.found n)) c.args.core.now c.loop-bit.core
    (g.K.Sink.taken c.args.out.now) (g.K.Sink.taken c.loop-bit.out)) all c.loop-bit.invariant.run

use Rattle.rt_live.proofs.Vocabulary.{BitsMayArrive, Caller as Line, Image, ap, arith, arrivals_from, look_arrivals}
use Rattle.rt_live.proofs.Vocabulary.{refl, still_writable, subst, sym, ◌<◌, ◌∙◌}
use Rattle.rt_live.proofs.{Looking.arrives, Looking.find_cut, Looking.find_more, Looking.find_none, Looking.looked_all}
use Rattle.rt_live.proofs.{Looking.looked_calls, Looking.looked_none, Turning.gave_up, Woven.no_steps}
use Rattle.rt_live.proofs.turns.look.Goals as goal

pub loop-k-init : goal.loop-k-init
loop-k-init g c = record { run = looked_none c.args.line.now c.args.core.now _; quiet = refl }

pub latch-found-requires-clause-words : goal.latch-found-requires-clause-words
latch-found-requires-clause-words g c = ap (λ (l : Line). l.words) c.loop-k.invariant.run.same ∙ c.requires.able.words

pub latch-found-requires-clause-first : goal.latch-found-requires-clause-first
latch-found-requires-clause-first g c =
    omega (arith, ap (λ (l : Line). l.here) c.loop-k.invariant.run.same, c.first_word-first.ensures)

pub latch-found-requires-clause-room : goal.latch-found-requires-clause-room
latch-found-requires-clause-room g c = omega (arith, looked_calls c.loop-k.invariant.run, c.requires.room)

pub latch-found-requires-clause-word : goal.latch-found-requires-clause-word
latch-found-requires-clause-word g c =
    let k_below : c.loop-k.k < 16 = omega arith in
    omega (arith, k_below, ap (λ (l : Line). l.here) c.loop-k.invariant.run.same, c.requires.able.many)

pub arrive_word-requires-clause-writable : goal.arrive_word-requires-clause-writable
arrive_word-requires-clause-writable g c =
    let look = c.loop-k.invariant.run.look in
    still_writable (look_arrivals look.found) c.args.core.now _ look.comes.leads c.requires.able.writable

pub arrive_word-requires-clause-few : goal.arrive_word-requires-clause-few
arrive_word-requires-clause-few g c =
    let look = c.loop-k.invariant.run.look in
    omega (arith, look.comes.leads.steps, no_steps (arrivals_from 0 look.found), c.requires.few)

pub arrive_word-requires-clause-may : goal.arrive_word-requires-clause-may
arrive_word-requires-clause-may g c =
    subst (λ (img : Image). BitsMayArrive img.names c.loop-k.k c.latch-found.result)
    (sym c.loop-k.invariant.run.look.comes.leads.image)
    (arrives c.loop-k.invariant.run c.requires.able (omega arith) c.latch-found.result c.latch-found.ensures.may)

pub returns-in_err-arrive_word-clause-goes : goal.returns-in_err-arrive_word-clause-goes
returns-in_err-arrive_word-clause-goes g c = λ route.
    rw (gave_up _ c.from_residual.result c.from_residual.ensures.1)
    (find_cut c.loop-k.invariant.run c.requires.able (omega arith) c.latch-found.result c.latch-found.ensures.may _
    c.latch-found.ensures.call c.in_err-arrive_word.ensures.comes)

pub loop-k-preserved-then-found-eq0 : goal.loop-k-preserved-then-found-eq0
loop-k-preserved-then-found-eq0 g c = record {
  run =
      find_none c.loop-k.invariant.run c.requires.able (omega arith) c.latch-found.result c.latch-found.ensures.may _
      c.latch-found.ensures.call c.if-found-eq0.true;
  quiet = c.loop-k.invariant.quiet;
}

pub loop-k-preserved : goal.loop-k-preserved
loop-k-preserved g c = record {
  run =
      find_more c.loop-k.invariant.run c.requires.able (omega arith) c.latch-found.result c.latch-found.ensures.may _
      c.latch-found.ensures.call c.in_ok-arrive_word.ensures.comes;
  quiet = c.in_ok-arrive_word.ensures.quiet ∙ c.loop-k.invariant.quiet;
}

pub returns-clause-goes : goal.returns-clause-goes
returns-clause-goes g c = λ route. looked_all c.loop-k.invariant.run (omega arith)

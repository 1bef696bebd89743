use Rattle.rt_live.proofs.Vocabulary.{IRQ_NUMBERS, all_weaker, ap, append-nil, arith, irqs_of, sym, ◌<◌, ◌∙◌}
use Rattle.rt_words.specs.Lines.{Line}
use Rattle.rt_live.proofs.Tallied.{gathers_more, next_beside, next_room}
use Rattle.rt_live_inputs.proofs.closing.gather_devices.Goals as goal

pub loop-device-init : goal.loop-device-init
loop-device-init c = record {
  done = _;
  parts = sym (append-nil c.args.devices.items);
  line = ap (λ ps. record c.args.line.now { gathered = ps }) c.requires.none;
  since = λ within. within;
  counted = c.requires.empty;
}

pub gather-tally-requires-clause-first : goal.gather-tally-requires-clause-first
gather-tally-requires-clause-first c = ap (λ (l : Line). l.number) c.loop-device.invariant.line ∙ c.requires.first

pub gather-tally-requires-clause-words : goal.gather-tally-requires-clause-words
gather-tally-requires-clause-words c = ap (λ (l : Line). l.words) c.loop-device.invariant.line ∙ c.requires.core

pub gather-tally-requires-clause-line : goal.gather-tally-requires-clause-line
gather-tally-requires-clause-line c =
    ap (λ (l : Line). l.words)
    (next_beside c.args.words.now _ c.in-Some.device c.loop-device.invariant c.in-Some.ensures.items
    c.requires.devices).line

pub gather-tally-requires-clause-other : goal.gather-tally-requires-clause-other
gather-tally-requires-clause-other c = λ is.
    let beside = next_beside c.args.words.now _ c.in-Some.device c.loop-device.invariant c.in-Some.ensures.items
    c.requires.devices in
    absurd (omega (arith, is, ap (λ (l : Line). l.number) beside.line, beside.low))

pub add_counts-requires : goal.add_counts-requires
add_counts-requires c = record {
  room = next_room c.args.words.now _ c.in-Some.device c.loop-device.invariant c.in-Some.ensures.items
      c.requires.devices c.requires.few;
}

pub loop-device-preserved : goal.loop-device-preserved
loop-device-preserved c =
    let irqs = irqs_of c.args.rows.now in
    gathers_more c.args.words.now _ c.in-Some.device c.loop-device.invariant c.in-Some.ensures.items c.requires.devices
    _ c.gather-tally.result _
    (all_weaker (λ irq. irq < IRQ_NUMBERS) (λ irq. irq < 512) (λ irq is. omega (arith, is)) irqs c.requires.in_range)
    c.gather-tally.ensures.maker c.gather-tally.ensures.tally c.add_counts.ensures

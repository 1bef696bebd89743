use Rattle.std.proofs.Common.{◌≡◌, ◌<◌, ◌≤◌, ◌+◌, ◌-◌, ◌++◌, [], ◌∷◌, map, subst, sym, ap, ◌∙◌, arith}
use Rattle.rt_ids.specs.declared.limits.TheConstants.{SCRIPT_EVENTS}
use Rattle.rt_script.specs.Generated.{drawn_words, generated_line, generated}
use Rattle.rt_script.specs.Script.{count, count_of}
use Rattle.rt_script.proofs.Drawing.{lines_more, lines_all, has_room, count_push}
use Rattle.rt_script.proofs.generating.generated.Goals as goal

pub loop-drawn-preserved : goal.loop-drawn-preserved
loop-drawn-preserved c =
    let n = c.loop-drawn._drawn in
    let old = c.loop-drawn.script in
    let line = c.line_of.result in
    let within : n < 200 = omega arith in
    let room : count old + count_of line ≤ SCRIPT_EVENTS =
    omega (arith, c.loop-drawn.invariant.few, c.line_of.ensures.few) in
    let pushed : c.push.new.self ≡ old ++ line ∷ [] =
    has_room old c.push.new.self line c.in_ok-push.field-0 c.push.result c.in_ok-push.was c.in_ok-push.ensures.fits room
    c.push.ensures.pushed in
    record {
      lines =
          subst (λ made. made ++ map (generated_line c.args.irqs.now) (drawn_words (200 -
          (n + 1)) c.next_word-word.new.self)
          ≡ generated c.args.irqs.now c.args.number c.args.stream)
          (ap (λ l. old ++ l ∷ []) (sym c.line_of.ensures.line) ∙ sym pushed)
          (lines_more (generated_line c.args.irqs.now) c.next_word-word.result 200 n old _ c.loop-drawn.generator
          c.next_word-word.new.self within c.next_word-word.ensures c.loop-drawn.invariant.lines);
      few = count_push old c.push.new.self line 64 n pushed c.loop-drawn.invariant.few c.line_of.ensures.few;
    }

pub returns : goal.returns
returns c =
    lines_all (generated_line c.args.irqs.now) 200 c.loop-drawn._drawn c.loop-drawn.script _ c.loop-drawn.generator
    (omega arith) c.loop-drawn.invariant.lines

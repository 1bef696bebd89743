use Rattle.std.proofs.Common.{◌≡◌, ◌+◌, ◌≤◌, ◌++◌, ◌∷◌, [], List, Ok, option_to_list, true, le-leb, ap, sym, ◌∙◌, arith}
use Rattle.rt_script.specs.Script.{count, count_of}
use Rattle.rt_script.specs.declared.line.Line.{Line}
use Rattle.rt_ids.specs.declared.limits.TheConstants.{SCRIPT_EVENTS}
use Rattle.rt_live_inputs.proofs.Made.{plain_device, plain_fits, plain_next}
use Rattle.rt_live_inputs.proofs.making.plain_script.Goals as goal

pub push-requires : goal.push-requires
push-requires c =
    plain_device c.args.lines.now c.requires c.loop-line.line-index c.line-item.result c.loop-line-test.true
    c.line-item.is c.in-Some.plain (ap option_to_list (sym c.in-Some.is) ∙ c.plain_line.ensures)

pub loop-line-preserved : goal.loop-line-preserved
loop-line-preserved c =
    let lines = c.args.lines.now in
    let i = c.loop-line.line-index in
    let one : Line = c.in-Some.plain in
    let own = ap option_to_list (sym c.in-Some.is) ∙ c.plain_line.ensures in
    let fits : count c.loop-line.script + count_of one ≤ SCRIPT_EVENTS = omega (
      arith,
      plain_fits lines i c.line-item.result c.loop-line-test.true c.line-item.is one own,
      ap count c.loop-line.invariant,
      c.requires.few,
    ) in
    let went : c.in_ok-push.field-0 ≡ true =
    c.in_ok-push.ensures.fits ∙ le-leb (count c.loop-line.script + count_of one) SCRIPT_EVENTS fits in
    c.in_ok-push.ensures.pushed (ap Ok went)
    ∙ ap (λ (ls : List Line). ls ++ one ∷ []) c.loop-line.invariant
    ∙ sym (plain_next lines c.requires i c.line-item.result c.loop-line-test.true c.line-item.is one own)

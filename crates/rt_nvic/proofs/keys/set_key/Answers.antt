use Rattle.std.proofs.Common.{ℕ, ◌+◌, ◌/◌, ◌<◌, length, length-set, get_or, set, ap, ◌∙◌, arith}
use Rattle.std.proofs.Common.{get_or-set_other}
use Rattle.rt_nvic.specs.declared.sizes.TheConstants.{LEAVES}
use Rattle.rt_nvic.proofs.Tournament.{but_one_at_leaf, but_one_above, all_with, all_at_first, same_leaf, other_leaf}
use Rattle.rt_nvic.proofs.keys.set_key.Goals as goal

pub loop-at-init : goal.loop-at-init
loop-at-init c =
    let nodes = c.args.nodes.now in
    let e = c.from.ensures in
    record {
      some = omega arith;
      within = omega arith;
      long = length-set nodes (LEAVES + c.from.result) c.args.key ∙ c.requires.long;
      nodes = but_one_at_leaf nodes (LEAVES + c.from.result) c.args.key (omega arith) c.requires.tournament;
      leaves = λ i l. ap (λ (k : ℕ). get_or (set nodes (LEAVES + k) c.args.key) i 0) e;
    }

pub loop-at-preserved : goal.loop-at-preserved
loop-at-preserved c =
    let nodes = c.loop-at.nodes in
    let is = c.loop-at.invariant in
    let above = c.loop-at.at / 2 in
    let least = c.lesser-least.result in
    let more = c.loop-at-test.true in
    let within = is.within in
    let long = is.long in
    let some : 0 < above = omega arith in
    let low : above < length nodes = omega arith in
    record {
      some = some;
      within = omega arith;
      long = length-set nodes above least ∙ long;
      nodes = but_one_above nodes above least some low c.lesser-least.ensures is.nodes;
      leaves = λ i l. get_or-set_other nodes above i least 0 (omega arith) ∙ is.leaves i l;
    }

pub returns-then-held-least : goal.returns-then-held-least
returns-then-held-least c =
    let left = c.loop-at.nodes in
    let is = c.loop-at.invariant in
    let low = c.requires.number in
    record {
      tournament = all_with left (c.loop-at.at / 2) (c.if-held-least.true ∙ c.lesser-least.ensures) is.nodes;
      long = is.long;
      same = same_leaf c.args.nodes.now left c.args.number c.args.key (omega arith) c.requires.long is.leaves;
      others = λ other ne. other_leaf c.args.nodes.now left c.args.number c.args.key other ne is.leaves;
    }

pub returns : goal.returns
returns c =
    let left = c.loop-at.nodes in
    let is = c.loop-at.invariant in
    let low = c.requires.number in
    let last = c.loop-at-test.false in
    record {
      tournament = all_at_first left (c.loop-at.at / 2) (omega arith) is.nodes;
      long = is.long;
      same = same_leaf c.args.nodes.now left c.args.number c.args.key (omega arith) c.requires.long is.leaves;
      others = λ other ne. other_leaf c.args.nodes.now left c.args.number c.args.key other ne is.leaves;
    }

use Rattle.std.proofs.Common.{reverse, not, eqb, rules, tests}
use Rattle.std.proofs.lemmas.Iterator.Adapters.{YieldsList-from_rev_slice}
use Rattle.std.proofs.lemmas.Iterator.Consumers.{count_from_yields_List}
use Rattle.std.proofs.lemmas.Iterator.Search.{YieldsList-from_take_while}
use Rattle.rt_lex.proofs.line.last_line_len.Goals as goal

pub returns : goal.returns
returns c =
    let back = reverse c.args.text.now in
    count_from_yields_List c.take_while.result _ c.count.ensures.ran
    (YieldsList-from_take_while _ (λ b. not (eqb b 10)) (YieldsList-from_rev_slice c.args.text.now (cc))
    c.take_while.ensures.closure c.take_while.ensures.done (λ x b q k. search (rules, tests)))

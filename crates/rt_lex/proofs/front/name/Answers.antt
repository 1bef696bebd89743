use Rattle.std.proofs.Common.{ap, ◌∙◌, take, rules, tests}
use Rattle.std.proofs.lemmas.Iterator.{YieldsList-from_slice}
use Rattle.std.proofs.lemmas.Iterator.Consumers.{count_from_yields_List}
use Rattle.std.proofs.lemmas.Iterator.Search.{YieldsList-from_take_while}
use Rattle.std.proofs.lemmas.List.Folds.{length-prefix_len}
use Rattle.rt_ids.specs.Byte.{is_name_byte}
use Rattle.rt_lex.proofs.front.name.Goals as goal

pub returns : goal.returns
returns c =
    let text = c.args.text.now in
    ap (λ n. take n text) (count_from_yields_List c.take_while.result _ c.count-len.ensures.ran
    (YieldsList-from_take_while _ is_name_byte (YieldsList-from_slice text (cc)) c.take_while.ensures.closure
    c.take_while.ensures.done (λ x b q k. search (rules, tests))) ∙ length-prefix_len is_name_byte text)

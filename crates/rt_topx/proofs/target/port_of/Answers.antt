use Rattle.std.proofs.Common.{rules, tests, Bool, ◌∙◌}
use Rattle.std.proofs.lemmas.Iterator.{YieldsList-from_slice}
use Rattle.std.proofs.lemmas.Iterator.Search.{find_from_yields_List}
use Rattle.rt_target.specs.Chip.{is_port}
use Rattle.rt_target.specs.declared.fact.Fact.{Fact}
use Rattle.rt_topx.proofs.target.port_of.Goals as goal

pub returns : goal.returns
returns c =
    let test : Fact → Bool = is_port in
    c.copied.ensures ∙ find_from_yields_List test _ _ c.find.result c.find.ensures.ran
    (YieldsList-from_slice c.args.facts.now cc) (λ x b q k. search (rules, tests))

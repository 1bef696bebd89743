use Rattle.std.proofs.Common.{rules, tests, Bool, ◌∙◌}
use Rattle.std.proofs.lemmas.Iterator.{YieldsList-from_slice}
use Rattle.std.proofs.lemmas.Iterator.Search.{find_from_yields_List}
use Rattle.rt_board.specs.declared.board.Input.{Input as Writes}
use Rattle.rt_topx.specs.Target.{is_of_local}
use Rattle.rt_topx.proofs.target.input_of.Goals as goal

pub returns : goal.returns
returns c =
    let test : Writes → Bool = is_of_local c.args.local in
    c.copied.ensures ∙ find_from_yields_List test _ _ c.find.result c.find.ensures.ran
    (YieldsList-from_slice c.args.inputs.now cc) (λ x b q k. search (rules, tests))

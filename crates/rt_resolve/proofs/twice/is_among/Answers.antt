use Rattle.std.proofs.Common.{Bor, rules, tests}
use Rattle.std.proofs.lemmas.Iterator.{YieldsList-from_slice}
use Rattle.std.proofs.lemmas.Iterator.Search.{any_from_yields_List}
use Rattle.rt_ids.proofs.Lists.{list_any-map}
use Rattle.rt_ast.specs.declared.ident.Ident.{Ident}
use Rattle.rt_resolve.specs.Scope.{is_named}
use Rattle.rt_resolve.proofs.twice.is_among.Goals as goal

pub returns : goal.returns
returns c =
    let test = λ (x : Bor Ident). is_named c.args.name.now x.now in
    rw list_any-map (any_from_yields_List test _ _ c.any.result c.any.ensures.ran
    (YieldsList-from_slice c.args.idents.now cc) (λ x b q k. search (rules, tests)))

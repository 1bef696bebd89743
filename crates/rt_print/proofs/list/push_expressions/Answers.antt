use Rattle.std.proofs.Common.{◌≡◌, ◌++◌, List, [], ◌∷◌, map, codes, refl, sym, ap, subst}
use Rattle.std.proofs.lemmas.Result.{on_ok_weaker}
use Rattle.rt_lemmas.proofs.Lists.{flat_map-map}
use Rattle.rt_ast.specs.declared.expr.Expr.{Expr}
use Rattle.rt_ast.specs.View.{expression_of}
use Rattle.rt_ast.specs.CanonicalExpression.{separated_list, expression_text}
use Rattle.rt_print.proofs.list.push_expressions.Goals as goal

-- the texts of what is seen of expressions are theirs
seen : (exprs : List Expr) → separated_list (λ expr. expression_text (expression_of expr)) exprs
    ≡ separated_list expression_text (map expression_of exprs)
seen [] = refl
seen (expr ∷ exprs) =
    ap (λ text. expression_text (expression_of expr) ++ text)
    (sym (flat_map-map (λ e. codes ", " ++ expression_text e) expression_of exprs))

pub returns : goal.returns
returns c =
    on_ok_weaker c.push_separated.result
    (λ is. subst (λ text. c.push_separated.new.out.items ≡ c.args.out.now.items ++ text) (seen c.args.exprs.now) is)
    c.push_separated.ensures

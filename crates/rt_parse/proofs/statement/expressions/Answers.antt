use Rattle.std.proofs.Common.{◌≡◌, ℕ, ◌++◌, map, codes, List, [], ◌∷◌, sym, ◌∙◌, refl}
use Rattle.std.proofs.lemmas.Result.{err_from_is_err_and}
use Rattle.std.proofs.lemmas.List.{map_push}
use Rattle.rt_ast.specs.View.{expression_of}
use Rattle.rt_ast.specs.Tree.{Expression}
use Rattle.rt_parse.specs.Inside.Reading.{Reader}
use Rattle.rt_parse.specs.Inside.ReadingList.{adds_at}
use Rattle.rt_parse.specs.Inside.ReadingExpression.{expression_at}
use Rattle.rt_parse.proofs.Lists.{lists_on, item_stops, comma_stops, closes, sign_stops, item_shortens, added}
use Rattle.rt_parse.proofs.Lists.{not_added, none_added}
use Rattle.rt_parse.proofs.ShorterExpression.{shorter_expression}
use Rattle.rt_parse.proofs.statement.expressions.Goals as goal

abbrev item : List Expression → Reader (List Expression)
item = adds_at (λ (before : ℕ). expression_at)

pub returns-in_err-item : goal.returns-in_err-item
returns-in_err-item c =
    let p = err_from_is_err_and c.from_residual.result c.from_residual.ensures.1 in
    let open_ = sym c.goes_past.ensures ∙ c.loop-alloc-test.true in
    rw (p.1, p.2) (item_stops (codes ")") item (map expression_of c.loop-alloc.items.items) c.loop-alloc.rest []
    c.args.tokens c.in_err-item.field-0.0 open_
    (not_added (λ before. expression_at) (map expression_of c.loop-alloc.items.items) c.loop-alloc.rest
    c.in_err-item.field-0.0 (codes ")") open_ c.in_err-item.ensures) c.loop-alloc.invariant)

pub returns-in_err-rest : goal.returns-in_err-rest
returns-in_err-rest c =
    let p = err_from_is_err_and c.from_residual-in_err-rest.result c.from_residual-in_err-rest.ensures.1 in
    let open_ = sym c.goes_past.ensures ∙ c.loop-alloc-test.true in
    let less = shorter_expression c.loop-alloc.rest (expression_of c.in_ok-item.item) c.in_ok-item.behind
    c.in_ok-item.ensures in
    let got = added (λ before. expression_at) (map expression_of c.loop-alloc.items.items) c.loop-alloc.rest
    (expression_of c.in_ok-item.item) c.in_ok-item.behind (codes ")") open_ c.in_ok-item.ensures in
    rw (p.1, p.2) (comma_stops (codes ")") item (map expression_of c.loop-alloc.items.items) c.loop-alloc.rest []
    c.args.tokens c.in_err-rest.field-0.0 _ c.in_ok-item.behind less open_ got c.in_err-rest.ensures
    c.loop-alloc.invariant)

pub loop-alloc-smaller : goal.loop-alloc-smaller
loop-alloc-smaller c =
    item_shortens (codes ")") c.loop-alloc.rest c.in_ok-item.behind c.in_ok-rest.rest
    (shorter_expression c.loop-alloc.rest (expression_of c.in_ok-item.item) c.in_ok-item.behind
    c.in_ok-item.ensures) c.in_ok-rest.ensures

pub loop-alloc-preserved : goal.loop-alloc-preserved
loop-alloc-preserved c =
    let open_ = sym c.goes_past.ensures ∙ c.loop-alloc-test.true in
    let less = shorter_expression c.loop-alloc.rest (expression_of c.in_ok-item.item) c.in_ok-item.behind
    c.in_ok-item.ensures in
    let got = added (λ before. expression_at) (map expression_of c.loop-alloc.items.items) c.loop-alloc.rest
    (expression_of c.in_ok-item.item) c.in_ok-item.behind (codes ")") open_ c.in_ok-item.ensures in
    let e : map expression_of c.push.new.self.items ≡ map expression_of c.loop-alloc.items.items
    ++ expression_of c.in_ok-item.item ∷ [] = rw c.in_ok-push.ensures.items
    (map_push _ c.loop-alloc.items.items c.in_ok-item.item) in
    rw e (lists_on (codes ")") item (map expression_of c.loop-alloc.items.items) c.loop-alloc.rest [] c.args.tokens _
    c.in_ok-item.behind c.in_ok-rest.rest less open_ got c.in_ok-rest.ensures c.loop-alloc.invariant)

pub returns-in_err-rest-2 : goal.returns-in_err-rest-2
returns-in_err-rest-2 c =
    let p = err_from_is_err_and c.from_residual-in_err-rest-2.result c.from_residual-in_err-rest-2.ensures.1 in
    rw (p.1, p.2) (sign_stops (codes ")") item (map expression_of c.loop-alloc.items.items) c.loop-alloc.rest []
    c.args.tokens c.in_err-rest-2.field-0.0 (none_added (λ before. expression_at)
    (map expression_of c.loop-alloc.items.items)) (sym c.goes_past.ensures ∙ c.loop-alloc-test.false)
    c.in_err-rest-2.ensures c.loop-alloc.invariant)

pub returns : goal.returns
returns c =
    closes (codes ")") item (map expression_of c.loop-alloc.items.items) c.loop-alloc.rest [] c.args.tokens
    (none_added (λ before. expression_at) (map expression_of c.loop-alloc.items.items))
    (sym c.goes_past.ensures ∙ c.loop-alloc-test.false) c.loop-alloc.invariant
    ∙ rw c.in_ok-rest-2.ensures refl

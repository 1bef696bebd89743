use Rattle.std.proofs.Common.{◌≡◌, length, [], sym, ap, ◌∙◌, subst, arith, refl}
use Rattle.std.proofs.lemmas.Result.{err_from_is_err_and}
use Rattle.rt_parse.specs.Inside.Reading.{Stops}
use Rattle.rt_parse.specs.Inside.ReadingList.{adds_at}
use Rattle.rt_parse.proofs.Lists.{lists_on, item_stops, comma_stops, closes, sign_stops, item_shortens, added}
use Rattle.rt_parse.proofs.Lists.{not_added, none_added}
use Rattle.rt_parse.proofs.list.list.Goals as goal

pub returns-in_err-item : goal.returns-in_err-item
returns-in_err-item g c =
    let p = err_from_is_err_and c.from_residual.result c.from_residual.ensures.1 in
    let open_ = sym c.goes_past.ensures ∙ c.loop-alloc-test.true in
    let count : c.len.result ≡ length c.loop-alloc.items.items =
    omega (arith, c.loop-alloc.items.ok.0, c.len.ensures) in
    rw (p.1, p.2) (item_stops c.args.closing.now (adds_at g.T.ListItem.reads) c.loop-alloc.items.items c.loop-alloc.rest
    [] c.args.tokens c.in_err-item.field-0.0 open_
    (not_added g.T.ListItem.reads c.loop-alloc.items.items c.loop-alloc.rest c.in_err-item.field-0.0 c.args.closing.now
    open_ (subst (λ n. Stops c.in_err-item.field-0.0 (g.T.ListItem.reads n c.loop-alloc.rest)) count
    c.in_err-item.ensures.given)) c.loop-alloc.invariant)

pub returns-in_err-rest : goal.returns-in_err-rest
returns-in_err-rest g c =
    let p = err_from_is_err_and c.from_residual-in_err-rest.result c.from_residual-in_err-rest.ensures.1 in
    let open_ = sym c.goes_past.ensures ∙ c.loop-alloc-test.true in
    let count : c.len.result ≡ length c.loop-alloc.items.items =
    omega (arith, c.loop-alloc.items.ok.0, c.len.ensures) in
    let got = added g.T.ListItem.reads c.loop-alloc.items.items c.loop-alloc.rest c.in_ok-item.item c.in_ok-item.behind
    c.args.closing.now open_ (ap (λ n. g.T.ListItem.reads n c.loop-alloc.rest) (sym count) ∙ c.in_ok-item.ensures.given)
    in
    rw (p.1, p.2) (comma_stops c.args.closing.now (adds_at g.T.ListItem.reads) c.loop-alloc.items.items
    c.loop-alloc.rest [] c.args.tokens c.in_err-rest.field-0.0 _ c.in_ok-item.behind c.in_ok-item.ensures.shorter
    open_ got c.in_err-rest.ensures c.loop-alloc.invariant)

pub loop-alloc-smaller : goal.loop-alloc-smaller
loop-alloc-smaller g c = item_shortens c.args.closing.now c.loop-alloc.rest c.in_ok-item.behind c.in_ok-rest.rest
    c.in_ok-item.ensures.shorter c.in_ok-rest.ensures

pub loop-alloc-preserved : goal.loop-alloc-preserved
loop-alloc-preserved g c =
    let open_ = sym c.goes_past.ensures ∙ c.loop-alloc-test.true in
    let count : c.len.result ≡ length c.loop-alloc.items.items =
    omega (arith, c.loop-alloc.items.ok.0, c.len.ensures) in
    let got = added g.T.ListItem.reads c.loop-alloc.items.items c.loop-alloc.rest c.in_ok-item.item c.in_ok-item.behind
    c.args.closing.now open_ (ap (λ n. g.T.ListItem.reads n c.loop-alloc.rest) (sym count) ∙ c.in_ok-item.ensures.given)
    in
    rw c.in_ok-push.ensures.items (lists_on c.args.closing.now (adds_at g.T.ListItem.reads) c.loop-alloc.items.items
    c.loop-alloc.rest [] c.args.tokens _ c.in_ok-item.behind c.in_ok-rest.rest c.in_ok-item.ensures.shorter open_
    got c.in_ok-rest.ensures c.loop-alloc.invariant)

pub returns-in_err-rest-2 : goal.returns-in_err-rest-2
returns-in_err-rest-2 g c =
    let p = err_from_is_err_and c.from_residual-in_err-rest-2.result c.from_residual-in_err-rest-2.ensures.1 in
    rw (p.1, p.2) (sign_stops c.args.closing.now (adds_at g.T.ListItem.reads) c.loop-alloc.items.items c.loop-alloc.rest
    [] c.args.tokens c.in_err-rest-2.field-0.0 (none_added g.T.ListItem.reads c.loop-alloc.items.items)
    (sym c.goes_past.ensures ∙ c.loop-alloc-test.false) c.in_err-rest-2.ensures c.loop-alloc.invariant)

pub returns : goal.returns
returns g c =
    closes c.args.closing.now (adds_at g.T.ListItem.reads) c.loop-alloc.items.items c.loop-alloc.rest [] c.args.tokens
    (none_added g.T.ListItem.reads c.loop-alloc.items.items) (sym c.goes_past.ensures ∙ c.loop-alloc-test.false)
    c.loop-alloc.invariant
    ∙ rw c.in_ok-rest-2.ensures refl

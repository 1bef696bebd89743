use Rattle.std.proofs.Common.{codes, sym, ◌∙◌, refl}
use Rattle.std.proofs.lemmas.Result.{err_from_is_err_and}
use Rattle.rt_grammar.specs.Options.{no_options}
use Rattle.rt_parse.specs.Inside.ReadingOptions.{option_at}
use Rattle.rt_parse.specs.Inside.DeclarationView.{options_view, owner_view}
use Rattle.rt_parse.proofs.Lists.{lists_on, item_stops, comma_stops, closes, sign_stops, item_shortens}
use Rattle.rt_parse.proofs.ShorterDeclaration.{shorter_option, no_option}
use Rattle.rt_parse.proofs.body.option_list.Goals as goal

pub returns-in_err-more : goal.returns-in_err-more
returns-in_err-more c =
    let p = err_from_is_err_and c.from_residual.result c.from_residual.ensures.1 in
    rw (p.1, p.2) (item_stops (codes ")") (option_at (owner_view c.args.owner)) (options_view c.loop-alloc.options)
    c.loop-alloc.rest no_options c.args.tokens c.in_err-more.field-0.0
    (sym c.goes_past.ensures ∙ c.loop-alloc-test.true) c.in_err-more.ensures c.loop-alloc.invariant)

pub returns-in_err-rest : goal.returns-in_err-rest
returns-in_err-rest c =
    let p = err_from_is_err_and c.from_residual-in_err-rest.result c.from_residual-in_err-rest.ensures.1 in
    let less = shorter_option (owner_view c.args.owner) (options_view c.loop-alloc.options) c.loop-alloc.rest
    (options_view c.in_ok-more.more) c.in_ok-more.behind c.in_ok-more.ensures in
    rw (p.1, p.2) (comma_stops (codes ")") (option_at (owner_view c.args.owner)) (options_view c.loop-alloc.options)
    c.loop-alloc.rest no_options c.args.tokens c.in_err-rest.field-0.0 (options_view c.in_ok-more.more)
    c.in_ok-more.behind less
    (sym c.goes_past.ensures ∙ c.loop-alloc-test.true) c.in_ok-more.ensures c.in_err-rest.ensures
    c.loop-alloc.invariant)

pub loop-alloc-smaller : goal.loop-alloc-smaller
loop-alloc-smaller c =
    item_shortens (codes ")") c.loop-alloc.rest c.in_ok-more.behind c.in_ok-rest.rest
    (shorter_option (owner_view c.args.owner) (options_view c.loop-alloc.options) c.loop-alloc.rest
    (options_view c.in_ok-more.more) c.in_ok-more.behind c.in_ok-more.ensures) c.in_ok-rest.ensures

pub loop-alloc-preserved : goal.loop-alloc-preserved
loop-alloc-preserved c =
    let less = shorter_option (owner_view c.args.owner) (options_view c.loop-alloc.options) c.loop-alloc.rest
    (options_view c.in_ok-more.more) c.in_ok-more.behind c.in_ok-more.ensures in
    lists_on (codes ")") (option_at (owner_view c.args.owner)) (options_view c.loop-alloc.options) c.loop-alloc.rest
    no_options c.args.tokens (options_view c.in_ok-more.more) c.in_ok-more.behind c.in_ok-rest.rest less
    (sym c.goes_past.ensures ∙ c.loop-alloc-test.true) c.in_ok-more.ensures c.in_ok-rest.ensures c.loop-alloc.invariant

pub returns-in_err-rest-2 : goal.returns-in_err-rest-2
returns-in_err-rest-2 c =
    let p = err_from_is_err_and c.from_residual-in_err-rest-2.result c.from_residual-in_err-rest-2.ensures.1 in
    rw (p.1, p.2) (sign_stops (codes ")") (option_at (owner_view c.args.owner)) (options_view c.loop-alloc.options)
    c.loop-alloc.rest no_options c.args.tokens c.in_err-rest-2.field-0.0
    (no_option (owner_view c.args.owner) (options_view c.loop-alloc.options))
    (sym c.goes_past.ensures ∙ c.loop-alloc-test.false) c.in_err-rest-2.ensures c.loop-alloc.invariant)

pub returns : goal.returns
returns c =
    closes (codes ")") (option_at (owner_view c.args.owner)) (options_view c.loop-alloc.options) c.loop-alloc.rest
    no_options c.args.tokens (no_option (owner_view c.args.owner) (options_view c.loop-alloc.options))
    (sym c.goes_past.ensures ∙ c.loop-alloc-test.false) c.loop-alloc.invariant
    ∙ rw c.in_ok-rest-2.ensures refl

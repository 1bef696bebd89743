use Rattle.std.proofs.Common.{◌≡◌, not, sym, ap, ◌∙◌, subst, refl}
use Rattle.std.proofs.lemmas.Result.{err_from_is_err_and}
use Rattle.rt_grammar.specs.Tokens.{limit_if}
use Rattle.rt_grammar.specs.Limits.{within}
use Rattle.rt_parse.specs.Inside.Reading.{GivesRead, unless_limited, number_at}
use Rattle.rt_parse.proofs.Numbers.{number_then, still_stops}
use Rattle.rt_parse.proofs.tokens.number_within.Goals as goal

pub returns-in_err-number : goal.returns-in_err-number
returns-in_err-number c =
    let p = err_from_is_err_and c.from_residual.result c.from_residual.ensures.1 in
    rw (p.1, p.2, number_then (within c.args.least c.args.greatest c.args.limit) c.args.tokens)
    (still_stops c.in_err-number.field-0.0 (number_at c.args.tokens) _ c.in_err-number.ensures)

pub returns : goal.returns
returns c =
    let n = c.in_ok-number.number in
    let judged : c.limit_if-limit.result ≡ within c.args.least c.args.greatest c.args.limit n.value =
    c.limit_if-limit.ensures ∙ ap (λ b. limit_if (not b) c.args.limit) c.is_within-passes.ensures in
    subst (GivesRead (λ x. x) c.unless_limited.result)
    (ap (λ l. unless_limited n.at l n c.in_ok-number.tokens) judged
    ∙ sym (number_then (within c.args.least c.args.greatest c.args.limit) c.args.tokens
    ∙ rw c.in_ok-number.ensures refl))
    c.unless_limited.ensures

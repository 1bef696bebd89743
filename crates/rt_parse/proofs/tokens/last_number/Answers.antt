use Rattle.std.proofs.Common.{◌≡◌, sym, ap, ◌∙◌, subst, refl}
use Rattle.std.proofs.lemmas.Result.{err_from_is_err_and}
use Rattle.rt_ids.specs.declared.limit.Limit.TheVariants as limit
use Rattle.rt_ids.specs.declared.limits.TheConstants.{TURNS}
use Rattle.std.specs.Prelude.{nat_lt}
use Rattle.rt_grammar.specs.Tokens.{limit_if}
use Rattle.rt_grammar.specs.Limits.{turn_limit}
use Rattle.rt_parse.specs.Inside.Reading.{GivesRead, unless_limited, number_at}
use Rattle.rt_parse.proofs.Numbers.{number_then, still_stops}
use Rattle.rt_parse.proofs.tokens.last_number.Goals as goal

pub returns-in_err-number : goal.returns-in_err-number
returns-in_err-number c =
    let p = err_from_is_err_and c.from_residual.result c.from_residual.ensures.1 in
    rw (p.1, p.2, number_then (turn_limit c.args.first) c.args.tokens)
    (still_stops c.in_err-number.field-0.0 (number_at c.args.tokens) _ c.in_err-number.ensures)

pub returns : goal.returns
returns c =
    let n = c.in_ok-number.number in
    let judged : c.limit_if-limit.result ≡ turn_limit c.args.first n.value =
    c.limit_if-limit.ensures ∙ ap (λ m. limit_if (nat_lt TURNS m) limit.Turns) c.saturating_sub-turns.ensures in
    subst (GivesRead (λ x. x) c.unless_limited.result)
    (ap (λ l. unless_limited n.at l n c.in_ok-number.tokens) judged
    ∙ sym (number_then (turn_limit c.args.first) c.args.tokens ∙ rw c.in_ok-number.ensures refl))
    c.unless_limited.ensures

use Rattle.rt_lex.specs.Token.{view}
use Rattle.rt_parse.proofs.Operators.{compares_next}
use Rattle.rt_parse.proofs.expression.comparison_ahead.Goals as goal

pub returns-in-Some : goal.returns-in-Some
returns-in-Some c = compares_next c.comparison_of.result (view c.in-Some.token) c.args.tokens.now c.in-Some.ensures
    c.comparison_of.ensures

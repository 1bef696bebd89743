use Rattle.std.proofs.Common.{refl}
use Rattle.std.proofs.lemmas.Result.{err_from_is_err_and}
use Rattle.rt_parse.specs.Inside.ReadingExpression.{chains_at, atom_at}
use Rattle.rt_parse.specs.Inside.ExpressionView.{signs_of, strengths_from, stronger_than, measured_view}
use Rattle.rt_parse.proofs.ClimbStrengths.{begun, atom_stops, stepped, step_stops, ended}
use Rattle.rt_parse.proofs.ShorterExpression.{shorter_joined, shorter_chains, shorter_atom}
use Rattle.rt_parse.proofs.expression.+expression.Goals as goal

pub climb-returns-in_err-left : goal.climb-returns-in_err-left
climb-returns-in_err-left t c =
    let p = err_from_is_err_and c.from_residual.result c.from_residual.ensures.1 in
    rw (p.1, p.2) (atom_stops c.in_err-left.field-0.0 c.args.least (atom_at c.args.more) c.args.tokens.now
    c.in_err-left.ensures)

pub climb-loop-operator-init : goal.climb-loop-operator-init
climb-loop-operator-init t c = begun c.args.least (atom_at c.args.more) c.args.tokens.now
    (measured_view c.in_ok-left.left) c.atom.new.tokens c.in_ok-left.ensures

pub climb-returns-in_err-left-2 : goal.climb-returns-in_err-left-2
climb-returns-in_err-left-2 t c =
    let p = err_from_is_err_and c.from_residual-in_err-left-2.result c.from_residual-in_err-left-2.ensures.1 in
    let o = c.in-Some.operator in
    rw (p.1, p.2) (step_stops c.args.least o.op o.strength (atom_at c.args.more) (measured_view c.loop-operator.left)
    c.loop-operator.tokens (chains_at (strengths_from c.args.least) (atom_at c.args.more) c.args.tokens.now)
    c.in_err-left-2.field-0.0 (shorter_atom c.args.more) (c.in-Some.ensures.ahead o refl)
    (c.in-Some.ensures.least o refl) c.in_err-left-2.ensures c.loop-operator.invariant)

pub climb-loop-operator-smaller : goal.climb-loop-operator-smaller
climb-loop-operator-smaller t c =
    let o = c.in-Some.operator in
    shorter_joined (signs_of o.strength) (chains_at (stronger_than o.strength) (atom_at c.args.more))
    (measured_view c.loop-operator.left)
    (shorter_chains (stronger_than o.strength) (atom_at c.args.more) (shorter_atom c.args.more)) c.loop-operator.tokens
    (measured_view c.in_ok-left-2.left) c.extend.new.tokens c.in_ok-left-2.ensures

pub climb-loop-operator-preserved : goal.climb-loop-operator-preserved
climb-loop-operator-preserved t c =
    let o = c.in-Some.operator in
    stepped c.args.least o.op o.strength (atom_at c.args.more) (measured_view c.loop-operator.left)
    c.loop-operator.tokens (chains_at (strengths_from c.args.least) (atom_at c.args.more) c.args.tokens.now)
    (shorter_atom c.args.more) (c.in-Some.ensures.ahead o refl) (c.in-Some.ensures.least o refl)
    (measured_view c.in_ok-left-2.left) c.extend.new.tokens c.in_ok-left-2.ensures c.loop-operator.invariant

pub climb-returns : goal.climb-returns
climb-returns t c = ended c.args.least (atom_at c.args.more) (measured_view c.loop-operator.left) c.loop-operator.tokens
    (chains_at (strengths_from c.args.least) (atom_at c.args.more) c.args.tokens.now)
    (c.operator_ahead.ensures.none c.in_default.is) c.loop-operator.invariant

use Rattle.std.proofs.Common.{length, codes, [], ◌∷◌}
use Rattle.rt_lex.specs.Token.{is_this_sign}
use Rattle.rt_parse.specs.Inside.ReadingBodies.{argument_at}
use Rattle.rt_parse.proofs.Loops.{IsUnderWay}
use Rattle.rt_parse.proofs.body.more_arguments.Given as goal

abbrev pub invariant-loop-alloc : goal.invariant-loop-alloc
invariant-loop-alloc l = IsUnderWay (is_this_sign (codes ",")) argument_at l.arguments.items l.rest (l.fn.first ∷ [])
    l.fn.tokens

abbrev pub decreases-loop-alloc : goal.decreases-loop-alloc
decreases-loop-alloc l = length l.rest

use Rattle.std.proofs.Common.{◌≡◌, ◌+◌, length}
use Rattle.rt_lex.specs.Tokens.{tokens_at}
use Rattle.rt_lex.proofs.tokens.tokens_from.Given as goal

-- the rest has the same tokens, and ends where the text ends
abbrev pub invariant-loop-rest : goal.invariant-loop-rest
invariant-loop-rest l = record {
  same : tokens_at l.at l.rest ≡ tokens_at l.start l.text;
  end : l.at + length l.rest ≡ l.start + length l.text;
}

abbrev pub decreases-loop-rest : goal.decreases-loop-rest
decreases-loop-rest l = length l.rest

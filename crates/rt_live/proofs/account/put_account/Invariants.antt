use Rattle.rt_live.proofs.Vocabulary.{Took, account_text, take, ◌≡◌}
use Rattle.rt_live.proofs.account.put_account.Given as goal

-- the lines of the rows so far
abbrev pub invariant-loop-row : goal.invariant-loop-row
invariant-loop-row g l = record {
  took : Took (g.K.Sink.taken l.initial.out) (g.K.Sink.taken l.out)
      (account_text l.names (take l.row-index l.account.rows.items));
  quiet : g.K.Sink.faults l.out ≡ g.K.Sink.faults l.initial.out;
}

use Rattle.rt_priorities.proofs.laws.they_keep_agreeing.Goals as goal
use Rattle.rt_priorities.proofs.Keeping as keeping

pub returns-clause-entries : goal.returns-clause-entries
returns-clause-entries c = keeping.entries_keep_agreeing

pub returns-clause-returns : goal.returns-clause-returns
returns-clause-returns c = keeping.returns_keep_agreeing

pub returns-clause-arrivals : goal.returns-clause-arrivals
returns-clause-arrivals c = keeping.arrivals_keep_agreeing

pub returns-clause-others : goal.returns-clause-others
returns-clause-others c = keeping.others_keep_agreeing

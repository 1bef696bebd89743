use Rattle.rt_top.specs.Reads.{given_by}
use Rattle.rt_top.proofs.Texts.{other_is_refused}
use Rattle.rt_top.proofs.reading.read_other.Goals as goal

pub returns-in-Err-clause-reads : goal.returns-in-Err-clause-reads
returns-in-Err-clause-reads g c first =
    other_is_refused first (given_by g.S.Source.past c.args.source.now c.read_accepted.new.source) _ (λ whole. whole.1)
    c.in-Err.reply c.of_second.result c.in-Err.ensures.reads c.of_second.ensures

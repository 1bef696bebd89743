use Rattle.rt_nvic.proofs.OneBit.{clear_same, clear_other}
use Rattle.rt_nvic.proofs.bits.clear_bit.Goals as goal

pub returns-clause-same : goal.returns-clause-same
returns-clause-same c = clear_same c.args.words.now c.from.result c.args.number c.from.ensures c.requires

pub returns-clause-others : goal.returns-clause-others
returns-clause-others c = λ other ne. clear_other c.args.words.now c.from.result c.args.number other c.from.ensures
    c.requires ne

use Rattle.rt_nvic.proofs.OneBit.{set_same, set_other}
use Rattle.rt_nvic.proofs.bits.set_bit.Goals as goal

pub returns-clause-same : goal.returns-clause-same
returns-clause-same c = set_same c.args.words.now c.from.result c.args.number c.from.ensures c.requires

pub returns-clause-others : goal.returns-clause-others
returns-clause-others c = λ other ne. set_other c.args.words.now c.from.result c.args.number other c.from.ensures
    c.requires ne

use Rattle.rt_run.proofs.Worded.{operands}
use Rattle.rt_run.proofs.writing.put_shown.Goals as goal

pub put_item-requires : goal.put_item-requires
put_item-requires g c = record {
  step = c.requires.few;
  operands = operands c.args.names.now c.args.what c.requires.words c.numbers_fit.ensures;
}

pub returns-clause-line : goal.returns-clause-line
returns-clause-line g c = record {
  step = c.requires.few;
  operands = operands c.args.names.now c.args.what c.requires.words c.numbers_fit.ensures;
}

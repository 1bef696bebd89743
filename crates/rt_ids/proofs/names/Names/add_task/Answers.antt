use Rattle.rt_ids.proofs.Declared.{task_kept}
use Rattle.rt_ids.proofs.names.Names.add_task.Goals as goal

pub invariant_of-self-2 : goal.invariant_of-self-2
invariant_of-self-2 c =
    record {
      names = (task_kept _ _ _ c.args.self.now c.self.view_is c.self.invariant.names _ c.args.name.now
          c.in_ok-from_slice.ensures.items c.requires.named _ c.in_ok-insert.ensures.keys c.requires.unknown
          c.requires.room).1;
      firsts = c.self.invariant.firsts;
    }

pub returns-clause-added : goal.returns-clause-added
returns-clause-added c =
    (task_kept _ _ _ c.args.self.now c.self.view_is c.self.invariant.names _ c.args.name.now
    c.in_ok-from_slice.ensures.items c.requires.named _ c.in_ok-insert.ensures.keys c.requires.unknown
    c.requires.room).0

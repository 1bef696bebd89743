use Rattle.rt_baker_work.proofs.Walks.{one_more}
use Rattle.rt_baker_work.proofs.work.Work.push.Goals as goal

pub returns : goal.returns
returns c = one_more c.self.inside.todos.items c.push.new.self.items c.self.inside.vars.items c.args.self.now
    c.args.todo c.self.view_is c.in_ok-push.ensures.items

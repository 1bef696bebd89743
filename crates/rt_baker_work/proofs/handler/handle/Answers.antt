use Rattle.std.proofs.Common.{refl, ap}
use Rattle.rt_app.specs.View.{app_of}
use Rattle.rt_baker_work.specs.Code.{handler_of}
use Rattle.rt_baker_work.proofs.Walks.{two_more}
use Rattle.rt_baker_work.proofs.Handling.{runs, dispatches, times}
use Rattle.rt_baker_work.proofs.handler.handle.Goals as goal

pub returns-in_ok-begin-in-Runs : goal.returns-in_ok-begin-in-Runs
returns-in_ok-begin-in-Runs c =
    runs (app_of c.args.code.now.app.now) (handler_of c.args.handler) c.in-Runs.task (record {
      task = c.in-Runs.task;
      args = c.new-args.result.items;
    }) c.args.work.now c.begin.new.work (ap handler_of c.in-Runs.is) refl c.new-args.ensures.items
    c.in_ok-begin-in-Runs.ensures.same

pub returns-in_ok-push-in-Dispatches-2 : goal.returns-in_ok-push-in-Dispatches-2
returns-in_ok-push-in-Dispatches-2 c =
    dispatches (app_of c.args.code.now.app.now) (handler_of c.args.handler) c.in-Dispatches.level
    c.section_cost-cost.result c.args.work.now c.push-in-Dispatches.new.self (ap handler_of c.in-Dispatches.is)
    c.section_cost-cost.ensures
    (two_more c.args.work.now c.push.new.self c.push-in-Dispatches.new.self _ _ c.in_ok-push-in-Dispatches.ensures
    c.in_ok-push-in-Dispatches-2.ensures)

pub returns-in_ok-push-in-Times-2 : goal.returns-in_ok-push-in-Times-2
returns-in_ok-push-in-Times-2 c =
    times (app_of c.args.code.now.app.now) (handler_of c.args.handler) c.args.code.now.timer_section
    c.args.work.now c.push-in-Times-2.new.self (ap handler_of c.in-Times.is) c.requires.timed
    (two_more c.args.work.now c.push-in-Times.new.self c.push-in-Times-2.new.self _ _
    c.in_ok-push-in-Times.ensures c.in_ok-push-in-Times-2.ensures)

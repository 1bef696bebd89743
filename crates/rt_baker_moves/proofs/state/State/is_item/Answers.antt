use Rattle.std.proofs.Common.{ℕ, Option, Some, if◌then◌else◌, refl, ap, sym}
use Rattle.rt_ids.specs.declared.ids.BodyId.TheVariants as body
use Rattle.rt_trace.specs.declared.item.What.TheVariants as what
use Rattle.rt_laws.specs.Giving.{is_due}
use Rattle.rt_baker_work.specs.declared.action.Action.TheVariants as act
use Rattle.rt_baker_moves.specs.Inside.Acts.{held_instant}
use Rattle.rt_baker_moves.proofs.Showing.{shown_by}
use Rattle.rt_baker_moves.proofs.state.State.is_item.Goals as goal

pub returns-in-Enter : goal.returns-in-Enter
returns-in-Enter c =
    shown_by c.args.self.now c.args.action.now (act.Enter c.in-Enter.section c.in-Enter._cost)
    (what.Enter c.in-Enter.section) c.args.what.now c.is_enter.result c.in-Enter.is
    refl c.is_enter.ensures

pub returns-in-Leave : goal.returns-in-Leave
returns-in-Leave c =
    shown_by c.args.self.now c.args.action.now (act.Leave c.in-Leave.section)
    (what.Leave c.in-Leave.section c.left_value.result) c.args.what.now c.is_leave.result c.in-Leave.is
    (ap (λ (o : Option ℕ). Some (what.Leave c.in-Leave.section o)) (sym c.left_value.ensures)) c.is_leave.ensures

pub returns-in-Emit : goal.returns-in-Emit
returns-in-Emit c =
    shown_by c.args.self.now c.args.action.now (act.Emit c.in-Emit.value)
    (what.Emit c.in-Emit.value) c.args.what.now c.is_emit.result c.in-Emit.is
    refl c.is_emit.ensures

pub returns-in-Post : goal.returns-in-Post
returns-in-Post c =
    shown_by c.args.self.now c.args.action.now (act.Post c.in-Post.irq)
    (what.Post c.in-Post.irq) c.args.what.now c.is_post.result c.in-Post.is
    refl c.is_post.ensures

pub returns-in-Place : goal.returns-in-Place
returns-in-Place c =
    shown_by c.args.self.now c.args.action.now (act.Place c.in-Place.task)
    (what.Placed c.in-Place.task) c.args.what.now c.is_placed.result c.in-Place.is
    refl c.is_placed.ensures

pub returns-in-Full : goal.returns-in-Full
returns-in-Full c =
    shown_by c.args.self.now c.args.action.now (act.Full c.in-Full.task)
    (what.Full c.in-Full.task) c.args.what.now c.is_full.result c.in-Full.is
    refl c.is_full.ensures

pub returns-in-Ready : goal.returns-in-Ready
returns-in-Ready c =
    shown_by c.args.self.now c.args.action.now (act.Ready c.in-Ready._level c.in-Ready.message)
    (what.Ready c.task.result) c.args.what.now c.is_ready.result c.in-Ready.is
    (ap (λ (n : ℕ). Some (what.Ready n)) (sym c.task.ensures)) c.is_ready.ensures

pub returns-in-Start : goal.returns-in-Start
returns-in-Start c =
    shown_by c.args.self.now c.args.action.now (act.Start c.in-Start._level c.in-Start.message)
    (what.Start c.in-Start.message.task c.in-Start.message.args) c.args.what.now c.is_start.result c.in-Start.is
    refl c.is_start.ensures

pub returns-in-Free : goal.returns-in-Free
returns-in-Free c =
    shown_by c.args.self.now c.args.action.now (act.Free c.in-Free.task)
    (what.Free c.in-Free.task) c.args.what.now c.is_free.result c.in-Free.is
    refl c.is_free.ensures

pub returns-in-Arm : goal.returns-in-Arm
returns-in-Arm c =
    shown_by c.args.self.now c.args.action.now (act.Arm c.in-Arm.instant c.in-Arm.message)
    (what.Arm c.task-in-Arm.result c.in-Arm.instant) c.args.what.now c.is_arm.result c.in-Arm.is
    (ap (λ (n : ℕ). Some (what.Arm n c.in-Arm.instant)) (sym c.task-in-Arm.ensures)) c.is_arm.ensures

pub returns-in-Fire : goal.returns-in-Fire
returns-in-Fire c =
    shown_by c.args.self.now c.args.action.now (act.Fire c.in-Fire.message)
    (what.Fire c.task-in-Fire.result) c.args.what.now c.is_fire.result c.in-Fire.is
    (ap (λ (n : ℕ). Some (what.Fire n)) (sym c.task-in-Fire.ensures)) c.is_fire.ensures

pub returns-in-Cancel : goal.returns-in-Cancel
returns-in-Cancel c =
    shown_by c.args.self.now c.args.action.now (act.Cancel c.in-Cancel.task c.in-Cancel.handle)
    (what.Cancel c.in-Cancel.task c.in-Cancel.handle) c.args.what.now c.is_cancel.result c.in-Cancel.is
    refl c.is_cancel.ensures

pub returns-in-Move : goal.returns-in-Move
returns-in-Move c =
    shown_by c.args.self.now c.args.action.now (act.Move c.in-Move.task c.in-Move.handle c.in-Move.instant)
    (what.Move c.in-Move.task c.in-Move.handle c.in-Move.instant) c.args.what.now c.is_move.result c.in-Move.is
    refl c.is_move.ensures

pub returns-in-SetAlarm : goal.returns-in-SetAlarm
returns-in-SetAlarm c =
    shown_by c.args.self.now c.args.action.now act.SetAlarm
    (if is_due c.args.self.now.time (held_instant c.args.self.now) then what.Alarm else what.AlarmSet) c.args.what.now
    c.sets_alarm.result c.in-SetAlarm.is
    refl c.sets_alarm.ensures

pub returns-in-End : goal.returns-in-End
returns-in-End c =
    shown_by c.args.self.now c.args.action.now (act.End c.in-End.task)
    (what.End (body.Task c.in-End.task)) c.args.what.now c.is_task_end.result c.in-End.is
    refl c.is_task_end.ensures

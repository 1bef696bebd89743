use Rattle.rt_baker_work.specs.declared.todo.Reading.TheVariants as reading
use Rattle.rt_baker_work.proofs.Clocks.{answered_as, time_told}
use Rattle.rt_baker_work.proofs.clock.answer.Goals as goal

pub returns-in-Bind : goal.returns-in-Bind
returns-in-Bind c =
    λ app s.
    answered_as app c.args.reading (reading.Bind c.in-Bind.variable) c.args.time c.args.work.now c.bind.new.work s
    c.in-Bind.is (c.bind.ensures app s)

pub returns-in_ok-arm-in-Arm : goal.returns-in_ok-arm-in-Arm
returns-in_ok-arm-in-Arm c =
    λ app s.
    answered_as app c.args.reading (reading.Arm c.in-Arm.delay c.in-Arm.message) c.args.time c.args.work.now
    c.arm.new.work s c.in-Arm.is (c.in_ok-arm-in-Arm.ensures app s)

pub returns-in_ok-put_off-in-Move : goal.returns-in_ok-put_off-in-Move
returns-in_ok-put_off-in-Move c =
    λ app s.
    answered_as app c.args.reading (reading.Move c.in-Move.delay c.in-Move.task c.in-Move.handle) c.args.time
    c.args.work.now c.put_off.new.work s c.in-Move.is (c.in_ok-put_off-in-Move.ensures app s)

pub returns-in_ok-push-in-Fire : goal.returns-in_ok-push-in-Fire
returns-in_ok-push-in-Fire c =
    λ app s.
    answered_as app c.args.reading reading.Fire c.args.time c.args.work.now c.push.new.self s c.in-Fire.is
    (time_told app c.args.time c.args.work.now c.push.new.self c.in_ok-push-in-Fire.ensures s)

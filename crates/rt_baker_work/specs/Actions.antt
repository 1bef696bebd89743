-- The actions of the code as those of the definitions (`rt_ids`; the RTIC 1 book, resources, software tasks and the
-- monotonic). The code has no action for a reading of the clock, a return, or the end of `init` or `idle`.
use Rattle.rt_actions.specs.Action as action
use Rattle.rt_ids.specs.declared.ids.BodyId.TheVariants as body
use Rattle.rt_baker_work.specs.declared.action.Action.{Action}
use Rattle.rt_baker_work.specs.declared.action.Action.TheVariants as code

-- the action that the code's action is
abbrev pub action_of : Action → action.Action
action_of (code.Enter x cost) = action.Enters x cost
action_of (code.Leave x) = action.Leaves x
action_of (code.Emit v) = action.Emits v
action_of (code.Post irq) = action.Posts irq
action_of (code.Place n) = action.Places n
action_of (code.Full n) = action.FindsFull n
action_of (code.Ready p m) = action.Readies p m
action_of (code.Start p m) = action.Starts p m
action_of (code.Free n) = action.Frees n
action_of (code.Arm i m) = action.Arms i m
action_of (code.Fire m) = action.Fires m
action_of (code.Cancel n h) = action.Cancels n h
action_of (code.Move n h i) = action.Moves n h i
action_of code.SetAlarm = action.SetsAlarm
action_of (code.End n) = action.Ends (body.Task n)

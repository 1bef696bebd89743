use Rattle.rt_live_inputs.proofs.Looked.{look_done, looked_can, looked_take}
use Rattle.rt_live_inputs.proofs.looking.look.Goals as goal

pub look_at_row-requires-clause-can : goal.look_at_row-requires-clause-can
look_at_row-requires-clause-can g c = c.requires.can.happens

pub look_at_row-requires-clause-latches : goal.look_at_row-requires-clause-latches
look_at_row-requires-clause-latches g c = c.requires.can.latches

pub look_at_boxes-requires-clause-can : goal.look_at_boxes-requires-clause-can
look_at_boxes-requires-clause-can g c = looked_can c.look_at_row.ensures 1 c.requires.can.happens

pub look_at_boxes-requires-clause-takes : goal.look_at_boxes-requires-clause-takes
look_at_boxes-requires-clause-takes g c = looked_take c.look_at_row.ensures c.requires.can.takes

pub returns : goal.returns
returns g c = look_done c.look_at_row.ensures c.look_at_boxes.ensures

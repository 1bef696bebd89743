-- The law's clauses.
use Rattle.rt_image_times_laws.proofs.laws.image_times_hold.Goals as goal
use Rattle.rt_image_times_laws.proofs.Meeting.{images_respond, images_respond_once_init_ends}
use Rattle.rt_image_times_laws.proofs.Told.{times_are_told}

pub returns-clause-late : goal.returns-clause-late
returns-clause-late c = images_respond

pub returns-clause-once_init_ends : goal.returns-clause-once_init_ends
returns-clause-once_init_ends c = images_respond_once_init_ends

pub returns-clause-told : goal.returns-clause-told
returns-clause-told c = times_are_told

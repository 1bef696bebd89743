use Rattle.rt_respond_laws.proofs.TurnLaw.{runs_turn_for_messages}
use Rattle.rt_respond_laws.proofs.laws.runs_turn_for_messages.Goals as goal

pub returns : goal.returns
returns c = runs_turn_for_messages

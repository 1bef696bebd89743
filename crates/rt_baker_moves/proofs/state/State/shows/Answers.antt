use Rattle.rt_baker_moves.proofs.Showing.{shows_right, shows_wrong}
use Rattle.rt_baker_moves.proofs.state.State.shows.Goals as goal

pub returns-clause-right : goal.returns-clause-right
returns-clause-right c =
    shows_right c.args.self.now c.args.what.now c.is_shown.result c.is_shown.ensures

pub returns-clause-wrong : goal.returns-clause-wrong
returns-clause-wrong c =
    shows_wrong c.args.self.now c.args.what.now c.is_shown.result c.is_shown.ensures

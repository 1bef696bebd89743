-- Where each place of a message is: in one queue or in the hands of one job, and nowhere twice. It is said as a count,
-- so that a place that moves is counted as before. It is this project's own.
use Rattle.std.specs.Prelude.{ℕ, ◌+◌, List, [], ◌∷◌}
use Rattle.rt_actions.specs.Entry.{Entry, count}
use Rattle.rt_sim.specs.Inside.Coupling.{Part}
pub use Rattle.rt_sim.specs.Whereabouts.{IsOnce}

-- how often a place is in the hands of these jobs
abbrev pub hands : List Part → Entry → ℕ
hands [] e = 0
hands (p ∷ ps) e = count e p.places + hands ps e

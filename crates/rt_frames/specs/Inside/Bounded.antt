-- What bodies take and how long jobs wait, as the code finds them.
use Rattle.std.specs.Prelude.{ℕ}
use Rattle.rt_ids.specs.declared.ids.BodyId.{BodyId}
use Rattle.rt_app.specs.declared.bounds.BodyBound.{BodyBound}
use Rattle.rt_app.specs.declared.bounds.Wait.{Wait}
use Rattle.rt_app.specs.Tree.{Body, App}
use Rattle.rt_app.specs.Cost.{Measure}
use Rattle.rt_app.specs.BodyCost.{body_cost}
use Rattle.rt_app.specs.Bodies.{Member}
use Rattle.rt_app.specs.Ceiling.{Ceilings}
use Rattle.rt_app.specs.Frame.{frame_words}
use Rattle.rt_frames.specs.Inside.Waits.{wait_within}
use Rattle.rt_frames.specs.Inside.Saturated.{saturated_number}

-- a body that takes so many arguments, its frame up to the greatest number of 32 bits
abbrev pub saturated_bound : Measure → BodyId → ℕ → Body → BodyBound
saturated_bound m id args b = record { body = id; frame = saturated_number (frame_words args b); cost = body_cost m b }

-- the bounds of a body: its frame and its cost
abbrev pub member_bound : Measure → Member → BodyBound
member_bound measure m = saturated_bound measure m.id m.args m.body

-- the waiting bound of a priority
abbrev pub wait_of : App → Measure → Ceilings → ℕ → Wait
wait_of app m c p = record { priority = p; steps = wait_within app m c p }

-- Room: how many places of a task are out in a run, against the room that the report says. A place is out from the `ok`
-- that takes it to the `free` that gives it back (the RTIC 1 book, software tasks: the capacity). A spawn that finds
-- all places out ends with `full`; where the room is at most the capacity, there is none in the trace.
use Rattle.std.specs.Prelude.{◌≡◌, ℕ, ◌≤◌, List, ◌++◌, Contains, Some}
use Rattle.rt_ids.specs.declared.ids.Section.TheVariants as section
use Rattle.rt_actions.specs.Location.{Guarded}
use Rattle.rt_actions.specs.Content.{number}
use Rattle.rt_trace.specs.Label.{Label, Stepped}
use Rattle.rt_trace.specs.declared.item.What.TheVariants as what
use Rattle.rt_app.specs.Tree.{App}
use Rattle.rt_app.specs.Sending.{capacity_of}
use Rattle.rt_laws.specs.State.{first}
use Rattle.rt_laws.specs.ByItems.{after_all}
use Rattle.rt_respond.specs.Limits.{Limits}
use Rattle.rt_respond.specs.Response.{IsResponse}
use Rattle.rt_respond.specs.Room.{room}
use Rattle.rt_respond.specs.declared.handler.Handler.{Handler}
use Rattle.rt_respond.specs.declared.response.Response.{Response}
use Rattle.rt_respond_laws.specs.Started.{Dispatches}

-- the places of a task that are out behind these labels of a run
abbrev pub places_out : App → ℕ → List Label → ℕ
places_out app task labels = number ((after_all app (first app) labels).values (Guarded (section.Free task)))

-- the report says that the messages of a task need so much room
pub record NeedsRoom (app : App) (limits : Limits) (task most : ℕ) : Type 0 where
  pub dispatcher : Handler
  pub dispatches : Dispatches app task dispatcher
  pub response : Response
  pub is_response : IsResponse app limits.every dispatcher response
  pub room_is : room app limits.every dispatcher response ≡ Some most

pub record KeepsToRoom (app : App) (limits : Limits) (labels : List Label) : Type 0 where
  -- no more places are out at any moment
  pub within : (task most : ℕ) → NeedsRoom app limits task most → (front behind : List Label)
      → labels ≡ front ++ behind → places_out app task front ≤ most
  -- where the task has that many, no spawn finds it full
  pub never_full : (task most : ℕ) → NeedsRoom app limits task most → most ≤ capacity_of app task
      → ¬ Contains labels (Stepped (Some (what.Full task)))

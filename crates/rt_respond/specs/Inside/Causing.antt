-- What is known of the tables of responses and of reached handlers where the rows of what comes of requests are made.
use Rattle.std.specs.Prelude.{◌≡◌, ℕ, ◌<◌, true, List, length, Vec, Bool}
use Rattle.std.specs.Global.{Global}
use Rattle.rt_app.specs.Tree.{App}
use Rattle.rt_respond.specs.Limits.{Limits}
use Rattle.rt_respond.specs.Handlers.{handlers}
use Rattle.rt_respond.specs.Response.{IsResponse}
use Rattle.rt_respond.specs.Rows.{BelongEach}
use Rattle.rt_respond.specs.Inside.Paths.{AreEdges, is_marked, AreAllReached}
use Rattle.rt_respond.specs.declared.handler.Handler.{Handler}
use Rattle.rt_respond.specs.declared.path.Edge.{Edge}
use Rattle.rt_respond.specs.declared.response.Response.{Response}

-- of so many handlers, a response time each, and a row of flags, in which it is flagged itself
pub record HasRows (count answered : ℕ) (all : List (Vec Bool Global)) : Type 0 where
  pub answers : answered ≡ count
  pub itself : (n : ℕ) → n < count → is_marked all n n ≡ true

-- the tables are those of an application under limits
pub record IsGraph (app : App) (limits : Limits) (hs : List Handler) (responses : List Response)
    (all : List (Vec Bool Global)) : Type 0 where
  pub handlers_are : hs ≡ handlers app
  pub responses_are : BelongEach (IsResponse app limits.every) hs responses
  pub edges : List Edge
  pub edges_are : AreEdges app hs edges
  pub reached_are : AreAllReached edges (length hs) all

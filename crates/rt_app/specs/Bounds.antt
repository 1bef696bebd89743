-- The numbers that hold of every run of an application.
use Rattle.std.specs.Prelude.{ℕ, List, map}
use Rattle.rt_app.specs.declared.bounds.BodyBound.{BodyBound}
use Rattle.rt_app.specs.declared.bounds.Wait.{Wait}
use Rattle.rt_app.specs.Tree.{App}
use Rattle.rt_app.specs.Bodies.{Member, members}
use Rattle.rt_app.specs.BodyCost.{body_cost, cost_measure}
use Rattle.rt_app.specs.Frame.{frame_words}
use Rattle.rt_app.specs.Stack.{thread_words, stack_bytes, handler_priorities}
use Rattle.rt_app.specs.Waiting.{waiting_bound}

-- the frame and the cost of each body, the waiting bound of each priority, the frame of the thread and the whole stack
pub record Bounds : Type 0 where
  pub bodies : List BodyBound
  pub waits : List Wait
  pub thread_words : ℕ
  pub stack_bytes : ℕ

-- the frame and the cost of a body
abbrev pub body_bound : App → Member → BodyBound
body_bound app m = record { body = m.id; frame = frame_words m.args m.body; cost = body_cost (cost_measure app) m.body }

-- the numbers that `check` prints beside ceilings
abbrev pub bounds : App → Bounds
bounds app = record {
  bodies = map (body_bound app) (members app);
  waits = map (λ p. record { priority = p; steps = waiting_bound app p }) (handler_priorities app);
  thread_words = thread_words app;
  stack_bytes = stack_bytes app;
}

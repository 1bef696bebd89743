-- The least number of core steps that suffices, as the code looks for it.
use Rattle.std.specs.Prelude.{◌≡◌, ◌≤◌, List, length, map}
use Rattle.std.specs.List.{AllByRecursion}
use Rattle.rt_rta.specs.declared.limits.Limit.{Limit}
use Rattle.rt_app.specs.Tree.{App}
use Rattle.rt_respond.specs.Handlers.{handlers}
use Rattle.rt_respond.specs.Work.{work}
use Rattle.rt_respond.specs.Response.{backlog}
use Rattle.rt_respond.specs.declared.handler.Quantity.{Quantity}
use Rattle.rt_respond.specs.declared.response.Asked.{Asked}

-- each limit is of one core step at least
abbrev pub ArePositive : List Limit → Type 0
ArePositive limits = AllByRecursion (λ limit. 1 ≤ limit.every) limits

-- there is a work for each handler, and each limit is positive
pub record HasTables (asked : Asked) : Type 0 where
  pub long : length asked.all.works.now ≡ length asked.all.handlers.now
  pub positive : ArePositive asked.limits.now

-- what is asked for is what the definitions say, at this handler
pub record IsAsked (app : App) (what : Quantity) (asked : Asked) : Type 0 where
  pub handlers_are : asked.all.handlers.now ≡ handlers app
  pub works_are : asked.all.works.now ≡ map (work app what asked.this.now) (handlers app)
  pub backlog_is : asked.backlog ≡ backlog app asked.limits.now what asked.this.now

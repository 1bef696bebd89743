-- Response times by the clock. `times` counts core steps, and so do limits; here each core step has a duration of its
-- own, in cycles or microseconds, and `longest` is the longest that one core step lasts. Where requests of an interrupt
-- are as far apart as its distance takes in steps of the longest duration, each is served within the time that the
-- response time of its priority takes in such steps.
--
-- A request that comes within a core step counts from the next one on. So the time between two of them, as it is
-- counted here, may fall short of the time between the moments at which the device made them, by less than one step;
-- the premises allow for that. And from the device's moment on, a request is served within one step more.
use Rattle.std.specs.Prelude.{◌≡◌, ℕ, ◌+◌, ◌*◌, ◌<◌, ◌≤◌, false, List, [], ◌∷◌, ◌++◌, Contains, Some, IsSome}
use Rattle.std.specs.List.{AllByRecursion}
use Rattle.rt_trace.specs.Label.{Label, Arrived, Stepped, steps_of}
use Rattle.rt_trace.specs.declared.item.What.TheVariants as what
use Rattle.rt_app.specs.Tree.{App}
use Rattle.rt_app.specs.Handlers.{Service}
use Rattle.rt_laws.specs.Durations.{Durations, LastAtMost, time_of}
use Rattle.rt_laws.specs.Services.{service_at}
use Rattle.rt_laws.specs.Waiting.{is_take, is_return}
use Rattle.rt_rta.specs.Limits.{every_of}
use Rattle.rt_rta.specs.Response.{IsResponse}
use Rattle.rt_rta.specs.Kept.{end_of_init, InitEnds, Kept, KeptOnceInitEnds}
use Rattle.rt_rta.specs.Served.{Responds, RespondsOnceInitEnds}
use Rattle.rt_rta.specs.declared.limits.Limit.{Limit}

module _ (durations : Durations) (longest : ℕ) where
  -- `Kept` by the clock
  pub record KeptByClock (limits : List Limit) (labels : List Label) : Type 0 where
    -- nothing is requested before `init` ends
    pub late : (front behind : List Label) (irq : ℕ) → labels ≡ front ++ Arrived irq ∷ behind
        → Contains front end_of_init
    -- from a request of an interrupt to the next passes the time of so many of the longest steps, or less than one of
    -- them less
    pub apart : (front between behind : List Label) (irq every : ℕ) → every_of limits irq ≡ Some every
        → labels ≡ front ++ Arrived irq ∷ (between ++ Arrived irq ∷ behind)
        → longest * every < time_of durations (steps_of front) between + longest
    -- what has no limit is never requested
    pub limited : (front behind : List Label) (irq : ℕ) → labels ≡ front ++ Arrived irq ∷ behind
        → IsSome (every_of limits irq)

  -- `KeptFromEnd` by the clock
  pub record KeptByClockFromEnd (limits : List Limit) (during behind : List Label) : Type 0 where
    pub apart : (front between rest : List Label) (irq every : ℕ) → every_of limits irq ≡ Some every
        → behind ≡ front ++ Arrived irq ∷ (between ++ Arrived irq ∷ rest)
        → longest * every < time_of durations (steps_of during + 1 + steps_of front) between + longest
    pub apart_from_end : (between rest : List Label) (irq every : ℕ) → every_of limits irq ≡ Some every
        → Contains during (Arrived irq) → behind ≡ between ++ Arrived irq ∷ rest
        → longest * every < time_of durations (steps_of during + 1) between + longest

  -- `KeptOnceInitEnds` by the clock
  pub record KeptByClockOnceInitEnds (limits : List Limit) (labels : List Label) : Type 0 where
    pub from_end : (during behind : List Label) → InitEnds labels during behind
        → KeptByClockFromEnd limits during behind
    pub limited : (front behind : List Label) (irq : ℕ) → labels ≡ front ++ Arrived irq ∷ behind
        → IsSome (every_of limits irq)

  -- the first take of the interrupt, and the first return behind it, come within this time of these labels, before
  -- which so many core steps were taken
  pub record ServedByClock (irq before time : ℕ) (labels : List Label) : Type 0 where
    pub waiting : List Label
    pub depth : ℕ
    pub serving : List Label
    pub behind : List Label
    pub parts : labels
        ≡ waiting ++ Stepped (Some (what.Take irq depth)) ∷ (serving ++ Stepped (Some (what.Ret irq)) ∷ behind)
    pub first_take : AllByRecursion (λ label. is_take irq label ≡ false) waiting
    pub first_return : AllByRecursion (λ label. is_return irq label ≡ false) serving
    pub in_time : time_of durations before
        (waiting ++ Stepped (Some (what.Take irq depth)) ∷ (serving ++ Stepped (Some (what.Ret irq)) ∷ [])) ≤ time

  -- each request of an interrupt, of labels before which so many core steps were taken, is served within the time that
  -- the response time of its priority takes in steps of the longest duration, where the run goes on for so many steps
  abbrev pub RespondsByClock : App → List Limit → ℕ → List Label → Type 0
  RespondsByClock app limits before labels =
      (front behind : List Label) (irq : ℕ) (service : Service) (steps : ℕ) → labels ≡ front ++ Arrived irq ∷ behind
      → service_at app irq ≡ Some service → IsResponse app limits service.priority (Some steps)
      → steps ≤ steps_of behind
      → ServedByClock irq (before + steps_of front) (longest * steps) behind

  -- and so is each behind the end of `init`, and what was requested during `init`, from its end on
  pub record RespondsByClockFromEnd (app : App) (limits : List Limit) (during behind : List Label) : Type 0 where
    pub requests_behind : RespondsByClock app limits (steps_of during + 1) behind
    pub requests_during : (irq : ℕ) (service : Service) (steps : ℕ) → Contains during (Arrived irq)
        → service_at app irq ≡ Some service → IsResponse app limits service.priority (Some steps)
        → steps ≤ steps_of behind
        → ServedByClock irq (steps_of during + 1) (longest * steps) behind

  abbrev pub RespondsByClockOnceInitEnds : App → List Limit → List Label → Type 0
  RespondsByClockOnceInitEnds app limits labels =
      (during behind : List Label) → InitEnds labels during behind → RespondsByClockFromEnd app limits during behind

  -- Where no step lasts longer than the longest, requests that keep limits by the clock keep them in core steps, and
  -- what is served within so many core steps is served within the time of so many of the longest.
  pub record HoldsByClock : Type 0 where
    pub keeps : (limits : List Limit) (labels : List Label) → KeptByClock limits labels → Kept limits labels
    pub keeps_once_init_ends : (limits : List Limit) (labels : List Label) → KeptByClockOnceInitEnds limits labels
        → KeptOnceInitEnds limits labels
    pub responds : (app : App) (limits : List Limit) (labels : List Label) → Responds app limits labels
        → RespondsByClock app limits 0 labels
    pub responds_once_init_ends : (app : App) (limits : List Limit) (labels : List Label)
        → RespondsOnceInitEnds app limits labels → RespondsByClockOnceInitEnds app limits labels

-- response times hold by the clock, whatever the durations
abbrev pub ResponseTimesHoldByClock : Type 0
ResponseTimesHoldByClock =
    (durations : Durations) (longest : ℕ) → LastAtMost longest durations → HoldsByClock durations longest

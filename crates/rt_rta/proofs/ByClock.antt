-- Response times by the clock: so many core steps last so many times the longest at most.
use Rattle.std.proofs.Common.{ℕ, ◌+◌, ◌*◌, ◌≤◌, List, [], ◌∷◌, ◌++◌, Some, arith}
use Rattle.std.proofs.Math.Nat.{mul-le-mul_left}
use Rattle.rt_trace.specs.Label.{Label, Stepped, steps_of}
use Rattle.rt_trace.specs.declared.item.What.TheVariants as what
use Rattle.rt_trace.proofs.LabelsShown.{steps_join}
use Rattle.rt_app.specs.Tree.{App}
use Rattle.rt_laws.specs.Durations.{Durations, LastAtMost, TakesTime}
use Rattle.rt_laws.proofs.Durations.{takes_time}
use Rattle.rt_rta.specs.declared.limits.Limit.{Limit}
use Rattle.rt_rta.specs.Served.{ServedIn, Responds}
use Rattle.rt_rta.specs.ByClock.{ServedByClock, RespondsByClock, HoldsByClock, ResponseTimesHoldByClock}

module _ (durations : Durations) (longest : ℕ) (last : LastAtMost longest durations) where
  takes : TakesTime durations longest
  takes = takes_time durations longest last

  served : (irq steps before : ℕ) (labels : List Label) → ServedIn irq steps labels
      → ServedByClock durations longest irq before (longest * steps) labels
  served irq steps before labels one = record {
    waiting = one.waiting;
    depth = one.depth;
    serving = one.serving;
    behind = one.behind;
    parts = one.parts;
    first_take = one.first_take;
    first_return = one.first_return;
    in_time =
        let most = takes.most before whole in
        let time = one.in_time in
        let serves = steps_join one.serving (Stepped (Some (what.Ret irq)) ∷ []) in
        let all = steps_join one.waiting
        (Stepped (Some (what.Take irq one.depth)) ∷ (one.serving ++ Stepped (Some (what.Ret irq)) ∷ [])) in
        let few : longest * steps_of whole ≤ longest * steps =
        mul-le-mul_left longest (omega (arith, time, serves, all)) in
        omega (arith, most, few);
  }
    where
      whole : List Label
      whole = one.waiting ++ Stepped (Some (what.Take irq one.depth)) ∷ (one.serving
          ++ Stepped (Some (what.Ret irq)) ∷ [])

  responds : (app : App) (limits : List Limit) (before : ℕ) (labels : List Label) → Responds app limits labels
      → RespondsByClock durations longest app limits before labels
  responds app limits before labels all front behind irq service steps is at response enough =
      served irq steps (before + steps_of front) behind (all front behind irq service steps is at response enough)

  pub holds_by_clock : HoldsByClock durations longest
  holds_by_clock = record {
    keeps = λ limits labels kept. record {
      late = kept.late;
      apart = λ front between behind irq every row is.
          takes.least (steps_of front) every between (kept.apart front between behind irq every row is);
      limited = kept.limited;
    };
    keeps_once_init_ends = λ limits labels kept. record {
      from_end = λ during behind ends.
          let from = kept.from_end during behind ends in
          record {
            apart = λ front between rest irq every row is.
                takes.least (steps_of during + 1 + steps_of front) every between
                (from.apart front between rest irq every row is);
            apart_from_end = λ between rest irq every row there is.
                takes.least (steps_of during + 1) every between
                (from.apart_from_end between rest irq every row there is);
          };
      limited = kept.limited;
    };
    responds = λ app limits labels all. responds app limits 0 labels all;
    responds_once_init_ends = λ app limits labels all during behind ends.
        let from = all during behind ends in
        record {
          requests_behind = responds app limits (steps_of during + 1) behind from.requests_behind;
          requests_during = λ irq service steps there at response enough.
              served irq steps (steps_of during + 1) behind
              (from.requests_during irq service steps there at response enough);
        };
  }

pub response_times_hold_by_clock : ResponseTimesHoldByClock
response_times_hold_by_clock durations longest last = holds_by_clock durations longest last

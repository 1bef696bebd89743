-- One label of a run, as it changes what is owed to a priority: each core step that passes while something is owed
-- lowers it, or takes a step of the one lower section that may hold the priority off; a request alone raises it.
use Rattle.std.proofs.Common.{◌≡◌, ℕ, zero, suc, ◌+◌, ◌-◌, ◌≤◌, ◌<◌, ◌⊎◌, inl, inr, Bool, true, false}
use Rattle.std.proofs.Common.{nat_le, List, ◌∷◌, map, slice_set, slice_index_or, Option, Some, None, option_map}
use Rattle.std.proofs.Common.{refl, sym, ap, subst, ◌∙◌, arith}
use Rattle.std.specs.List.{AllByRecursion}
use Rattle.std.proofs.lemmas.Bool.{leb-true, leb-false}
use Rattle.std.proofs.lemmas.Option.{none-some}
use Rattle.rt_lemmas.proofs.Bools.{and_parts}
use Rattle.rt_ids.specs.Lists.{or_zero}
use Rattle.rt_ids.specs.Choice.{IsBest}
use Rattle.rt_trace.specs.Label.{Stepped}
use Rattle.rt_trace.specs.declared.item.What.{What}
use Rattle.rt_trace.specs.declared.item.What.TheVariants as what
use Rattle.rt_app.specs.Tree.{Task, App}
use Rattle.rt_app.specs.BodyCost.{cost_measure, cost_of}
use Rattle.rt_app.specs.Accepted.{IsAccepted}
use Rattle.rt_app.specs.Forms.{has_response_times}
use Rattle.rt_app.specs.Handlers.{Service}
use Rattle.rt_app.specs.Doings.{handler_doing}
use Rattle.rt_laws.specs.Services.{service_at, priority_of, handler_cost}
use Rattle.rt_laws.specs.State.{Role, Init, Idle, Waiting, Serving, Job, State}
use Rattle.rt_laws.specs.Preemption.{system_ceiling, may_start, candidate, IsNoLater}
use Rattle.rt_laws.specs.Allowed.{HasStep, MayStep, May, state_after_start, after}
use Rattle.rt_laws.specs.Observer.{Observer, sees}
use Rattle.rt_laws.proofs.Candidate.{candidate_is_highest}
use Rattle.rt_laws.proofs.Well.{IsAbove, StateWell}
use Rattle.rt_laws.proofs.Pending.{priority_is, held_off, starts_above, goes_first}
use Rattle.rt_laws.proofs.Happens.{Step, turn_silent, given_step}
use Rattle.rt_laws.proofs.Waiting.{Low, Took, Higher, Lower, took}
use Rattle.rt_rta.specs.Response.{handling_steps}
use Rattle.rt_rta.proofs.Quiet.{IsQuiet, task_quiet}
use Rattle.rt_rta.proofs.Tasks.{RunsTask, served_runs, served_number, task_serves}
use Rattle.rt_rta.proofs.Owing.{at_priority, at_priority_is, not_at_priority, owed_pending, owed_jobs, owed}
use Rattle.rt_rta.proofs.Owing.{take_lowers, take_clears, IsAsked, owes_pending, jobs_reach}
use Rattle.rt_rta.proofs.Spending.{Spends, SpendsOne, BeginsAnew, LeavesStack, Spent, step_spends}

-- nothing will be made pending by code
pub record StaysQuiet (s : State) : Type 0 where
  pub rests : AllByRecursion (λ job. IsQuiet job.rest) s.jobs
  pub alarm : s.alarm ≡ None
  pub not_owing : s.owing ≡ false

pub zero_or_some : (n : ℕ) → (n ≡ 0) ⊎ (0 < n)
zero_or_some zero = inl refl
zero_or_some (suc n) = inr (omega arith)

module _ (app : App) (accepted : IsAccepted app) (form : has_response_times app ≡ true) (p : ℕ) (positive : 0 < p) where
  abbrev owes : State → ℕ
  owes s = owed app p s

  -- where nothing is to be taken, a priority to which something is owed is reached
  reaches : (s : State) → candidate app s ≡ None → 0 < owes s → p ≤ system_ceiling app s.jobs
  reaches s none some = by (zero_or_some (owed_jobs app p s.jobs))
    where
      waits : IsAsked app p s.pending app.tasks → p ≤ system_ceiling app s.jobs
      waits one =
          let serves = task_serves app accepted form one.index one.task one.irq one.at one.number in
          let held : serves.service.priority ≤ system_ceiling app s.jobs =
          held_off app s one.irq serves.service serves.at one.set none in
          let over = one.over in
          let same = serves.priority in
          omega arith

      by : (owed_jobs app p s.jobs ≡ 0) ⊎ (0 < owed_jobs app p s.jobs) → p ≤ system_ceiling app s.jobs
      by (inl no_job) = waits (owes_pending app p s.pending app.tasks (omega (arith, some, no_job)))
      by (inr jobs) = jobs_reach app p s.jobs jobs

  -- and what is taken is of the priority or higher
  reaches_taken : (s : State) (irq : ℕ) → candidate app s ≡ Some irq → 0 < owes s → p ≤ priority_of app irq
  reaches_taken s irq taken some = by (zero_or_some (owed_jobs app p s.jobs))
    where
      waits : IsAsked app p s.pending app.tasks → p ≤ priority_of app irq
      waits one =
          let serves = task_serves app accepted form one.index one.task one.irq one.at one.number in
          let first : serves.service.priority ≤ priority_of app irq =
          goes_first app s one.irq irq serves.service serves.at one.set taken in
          let over = one.over in
          let same = serves.priority in
          omega arith

      by : (owed_jobs app p s.jobs ≡ 0) ⊎ (0 < owed_jobs app p s.jobs) → p ≤ priority_of app irq
      by (inl no_job) = waits (owes_pending app p s.pending app.tasks (omega (arith, some, no_job)))
      by (inr jobs) =
          let reach = jobs_reach app p s.jobs jobs in
          let over = starts_above app s irq taken in
          omega arith

  -- what a core step does
  pub record Lowers (s : State) (v : Observer) (t : State) (u : Observer) : Type 0 where
    pub quiet : StaysQuiet t
    pub no_more : owes t ≤ owes s
    pub spends : (entered left : ℕ) → 0 < owes s → Low app p entered left s.jobs v.jobs
        → (rest : ℕ) × Low app p entered rest t.jobs u.jobs × (owes t + rest + 1 ≤ owes s + left)

  pub pending_taken : (s : State) (irq : ℕ) → candidate app s ≡ Some irq → slice_index_or s.pending irq false ≡ true
  pending_taken s irq is =
      let best : IsBest (may_start app s) (IsNoLater app) (map (λ d. d.number) app.irqs) (Some irq) =
      subst (IsBest (may_start app s) (IsNoLater app) (map (λ d. d.number) app.irqs)) is (candidate_is_highest app s) in
      (and_parts (slice_index_or s.pending irq false) _ best.1).0

  pub is_served : (s : State) (irq : ℕ) → candidate app s ≡ Some irq → (v : Service) × (service_at app irq ≡ Some v)
  is_served s irq is = by (service_at app irq) refl
    where
      by : (o : Option Service) → service_at app irq ≡ o → (v : Service) × (o ≡ Some v)
      by (Some v) at = (v, refl)
      by None at =
          let over = starts_above app s irq is in
          let none : priority_of app irq ≡ 0 = ap (λ o. or_zero (option_map (λ (x : Service). x.priority) o)) at in
          absurd (omega arith)

  module _ (s : State) (v : Observer) (quiet : StaysQuiet s) where
    takes : (irq depth : ℕ) → candidate app s ≡ Some irq → (x : Service) → service_at app irq ≡ Some x
        → Lowers s v (state_after_start app (record s { pending = slice_set s.pending irq false }) irq (Some x))
        (sees app v (Stepped (Some (what.Take irq depth))))
    takes irq depth is x at = by (either_side (nat_le p x.priority) refl)
      where
        t : State
        t = state_after_start app (record s { pending = slice_set s.pending irq false }) irq (Some x)

        runs : RunsTask app accepted form x
        runs = served_runs app accepted form irq x at

        either_side : (b : Bool) → nat_le p x.priority ≡ b → (p ≤ x.priority) ⊎ (x.priority < p)
        either_side true test = inl (leb-true p x.priority test)
        either_side false test = inr (leb-false p x.priority test)

        stays : StaysQuiet t
        stays = record {
          rests = (
            subst (λ h. IsQuiet (handler_doing app h s.values)) (sym runs.handler)
                (task_quiet app accepted form runs.task runs.row runs.at s.values),
            quiet.rests,
          );
          alarm = quiet.alarm;
          not_owing = quiet.not_owing;
        }

        by : (p ≤ x.priority) ⊎ (x.priority < p) → Lowers s v t (sees app v (Stepped (Some (what.Take irq depth))))
        by (inl over) =
            let reach : p ≤ runs.row.priority = subst (λ q. p ≤ q) runs.priority over in
            let cost : handler_cost app x.handler + 1 ≡ handling_steps app runs.row =
            ap (λ h. handler_cost app h + 1) runs.handler
            ∙ ap (λ o. cost_of (cost_measure app) (option_map (λ (t : Task). t.body) o) + 1) runs.at in
            let clears = take_clears app p s.pending irq app.tasks runs.task runs.row runs.at reach
            (served_number app accepted form irq x at) (pending_taken s irq is) in
            let new : at_priority p x.priority (handler_cost app x.handler) ≡ handler_cost app x.handler =
            at_priority_is p x.priority (handler_cost app x.handler) over in
            let less : owes t + 1 ≤ owes s = omega (arith, cost, clears, new) in
            record {
              quiet = stays;
              no_more = omega arith;
              spends = λ entered left some low. (
                left,
                ((λ lower. absurd (omega (arith, lower, over))), (λ higher. low)),
                omega (arith, less),
              );
            }
        by (inr under) =
            let lowers = take_lowers app p s.pending irq app.tasks in
            let new : at_priority p x.priority (handler_cost app x.handler) ≡ 0 =
            not_at_priority p x.priority (handler_cost app x.handler) under in
            record {
              quiet = stays;
              no_more = omega (arith, lowers, new);
              spends = λ entered left some low.
                  let reach = reaches_taken s irq is some in
                  let same = priority_is app irq x at in
                  absurd (omega (arith, reach, same, under));
            }

    left_some : (role : Role) (q left : ℕ) (others : List Job) → IsAbove app role q others → HasStep role left → 0 < q
        → 0 < left
    left_some Init q left others above has some = has
    left_some Idle q left others above has some = has
    left_some Waiting q left others above has some = let none = above.1 in absurd (omega arith)
    left_some (Serving irq) q left others above has some = has

    module _ (given shown : Option What) (t : State) (u : Observer) (step : Step app s v given t u)
        (spent : Spent s step.job step.others shown t) (has : HasStep step.job.role step.job.left) where
      quiet_here : AllByRecursion (λ job. IsQuiet job.rest) (step.job ∷ step.others)
      quiet_here = subst (AllByRecursion (λ job. IsQuiet job.rest)) step.jobs_are quiet.rests

      rests_after : Spends step.job step.others shown t.jobs → AllByRecursion (λ job. IsQuiet job.rest) t.jobs
      rests_after (SpendsOne j js role priority left rest no_end) =
          subst (AllByRecursion (λ job. IsQuiet job.rest)) (sym js) (rest, quiet_here.1)
      rests_after (BeginsAnew j js priority rest ended) =
          subst (AllByRecursion (λ job. IsQuiet job.rest)) (sym js) (rest, quiet_here.1)
      rests_after (LeavesStack js returned) = subst (AllByRecursion (λ job. IsQuiet job.rest)) (sym js) quiet_here.1

      stays_quiet : StaysQuiet t
      stays_quiet = record {
        rests = rests_after spent.spends;
        alarm = spent.alarm ∙ quiet.alarm;
        not_owing = spent.owing ∙ quiet.not_owing;
      }

      abbrev below_it : ℕ
      below_it = owed_jobs app p step.others

      abbrev asked_for : ℕ
      asked_for = owed_pending app p s.pending app.tasks

      before : owes s ≡ at_priority p step.job.priority step.job.left + below_it + asked_for
      before = ap (λ js. owed_jobs app p js + asked_for) step.jobs_are

      after_jobs : (js : List Job) → t.jobs ≡ js → owes t ≡ owed_jobs app p js + asked_for
      after_jobs js is =
          ap (λ js. owed_jobs app p js + owed_pending app p t.pending app.tasks) is
          ∙ ap (λ ps. owed_jobs app p js + owed_pending app p ps app.tasks) spent.pending

      -- a job of the priority or higher has a step less left
      less_over : p ≤ step.job.priority → Spends step.job step.others shown t.jobs → owes t + 1 ≤ owes s
      less_over over (SpendsOne j js role priority left rest no_end) =
          let some : 0 < step.job.left = left_some step.job.role step.job.priority step.job.left step.others step.above
          has (omega arith) in
          let old = at_priority_is p step.job.priority step.job.left over in
          let new : at_priority p j.priority j.left ≡ step.job.left - 1 =
          at_priority_is p j.priority j.left (subst (λ q. p ≤ q) (sym priority) over) ∙ left in
          omega (arith, before, after_jobs (j ∷ step.others) js, old, new, some)
      less_over over (BeginsAnew j js priority rest ended) =
          let some : 0 < step.job.left = left_some step.job.role step.job.priority step.job.left step.others step.above
          has (omega arith) in
          let old = at_priority_is p step.job.priority step.job.left over in
          let new = not_at_priority p j.priority j.left (subst (λ q. q < p) (sym priority) positive) in
          omega (arith, before, after_jobs (j ∷ step.others) js, old, new, some)
      less_over over (LeavesStack js returned) =
          let some : 0 < step.job.left = left_some step.job.role step.job.priority step.job.left step.others step.above
          has (omega arith) in
          let old = at_priority_is p step.job.priority step.job.left over in
          omega (arith, before, after_jobs step.others js, old, some)

      -- a lower one owes nothing
      same_under : step.job.priority < p → Spends step.job step.others shown t.jobs → owes t ≤ owes s
      same_under under (SpendsOne j js role priority left rest no_end) =
          let new = not_at_priority p j.priority j.left (subst (λ q. q < p) (sym priority) under) in
          omega (arith, before, after_jobs (j ∷ step.others) js, new)
      same_under under (BeginsAnew j js priority rest ended) =
          let new = not_at_priority p j.priority j.left (subst (λ q. q < p) (sym priority) positive) in
          omega (arith, before, after_jobs (j ∷ step.others) js, new)
      same_under under (LeavesStack js returned) = omega (arith, before, after_jobs step.others js)

      taken : (entered left : ℕ) → Low app p entered left s.jobs v.jobs → p ≤ system_ceiling app s.jobs
          → Took app p positive entered left step.seen t.jobs u.jobs
      taken entered left low reach =
          took app p positive entered left step.job step.others step.seen step.seens step.well step.above
          (subst (λ js. Low app p entered left js (step.seen ∷ step.seens)) step.jobs_are
          (subst (λ vs. Low app p entered left s.jobs vs) step.views_are low))
          (subst (λ js. p ≤ system_ceiling app js) step.jobs_are reach) step.may given t.jobs u.jobs step.led.moves

      over_spends : p ≤ step.job.priority → (entered left : ℕ) → Low app p entered left s.jobs v.jobs
          → (rest : ℕ) × Low app p entered rest t.jobs u.jobs × (owes t + rest + 1 ≤ owes s + left)
      over_spends over entered left low = by (taken entered left low reach)
        where
          reach : p ≤ system_ceiling app s.jobs
          reach = subst (λ js. p ≤ system_ceiling app js) (sym step.jobs_are) (omega arith)

          by : Took app p positive entered left step.seen t.jobs u.jobs
              → (rest : ℕ) × Low app p entered rest t.jobs u.jobs × (owes t + rest + 1 ≤ owes s + left)
          by (Higher above low_next) = (let less = less_over over spent.spends in (left, low_next, omega arith))
          by (Lower under is some low_next) = (let same = step.well.priority in absurd (omega arith))

      under_spends : step.job.priority < p → (entered left : ℕ) → 0 < owes s → Low app p entered left s.jobs v.jobs
          → (rest : ℕ) × Low app p entered rest t.jobs u.jobs × (owes t + rest + 1 ≤ owes s + left)
      under_spends under entered left some low = by (taken entered left low (reaches s step.quiet some))
        where
          by : Took app p positive entered left step.seen t.jobs u.jobs
              → (rest : ℕ) × Low app p entered rest t.jobs u.jobs × (owes t + rest + 1 ≤ owes s + left)
          by (Higher above low_next) = (let same = step.well.priority in absurd (omega arith))
          by (Lower below is some_left low_next) =
              (let less = same_under under spent.spends in (left - 1, low_next, omega arith))

      step_lowers : Lowers s v t u
      step_lowers = by (nat_le p step.job.priority) refl
        where
          by : (b : Bool) → nat_le p step.job.priority ≡ b → Lowers s v t u
          by true test =
              let over : p ≤ step.job.priority = leb-true p step.job.priority test in
              let less = less_over over spent.spends in
              record {
                quiet = stays_quiet;
                no_more = omega arith;
                spends =
                    λ entered left some low. over_spends over entered left low;
              }
          by false test =
              let under : step.job.priority < p = leb-false p step.job.priority test in
              record {
                quiet = stays_quiet;
                no_more = same_under under spent.spends;
                spends = λ entered left some low. under_spends under entered left some low;
              }

  module _ (s : State) (v : Observer) (well : StateWell app s v) (quiet : StaysQuiet s) where
    of_step : (given shown : Option What) (t : State) (u : Observer) (step : Step app s v given t u)
        → May app s (Stepped shown) → MayStep s.jobs → ((irq depth : ℕ) → ¬ (shown ≡ Some (what.Take irq depth)))
        → t ≡ after app s (Stepped shown) → Lowers s v t u
    of_step given shown t u step may has no_take is =
        step_lowers s v quiet given shown t u step
        (subst (λ x. Spent s step.job step.others shown x) (sym is)
        (step_spends app accepted form s step.job step.others step.jobs_are
        (subst (AllByRecursion (λ job. IsQuiet job.rest)) step.jobs_are quiet.rests).0 shown may no_take))
        (subst MayStep step.jobs_are has).0

    -- a core step of a run
    pub lowers : (shown : Option What) → May app s (Stepped shown)
        → Lowers s v (after app s (Stepped shown)) (sees app v (Stepped shown))
    lowers None may =
        of_step None None _ _
        (turn_silent app accepted s v s.jobs v.jobs refl refl well.stack well.pending well.queued well.order may.step
        may.quiet)
        may may.step (λ irq depth e. none-some _ e) refl
    lowers (Some (what.Take irq depth)) may =
        let x = is_served s irq may.1 in
        subst (λ o. Lowers s v (state_after_start app (record s { pending = slice_set s.pending irq false }) irq o)
        (sees app v (Stepped (Some (what.Take irq depth))))) (sym x.1)
        (takes s v quiet irq depth may.1 x.0 x.1)
    lowers (Some w) may =
        of_step (Some w) (Some w) _ _ (given_step app accepted s v well w may.0 may.1) may may.0.step
        (λ irq depth e. cc) refl

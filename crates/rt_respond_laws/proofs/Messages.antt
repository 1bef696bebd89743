-- Each message starts and is done within the response time of its level's dispatcher.
use Rattle.std.proofs.Common.{◌≡◌, ℕ, suc, ◌+◌, ◌≤◌, true, count_by, Contains, List, [], ◌∷◌, ◌++◌}
use Rattle.std.proofs.Common.{length, length-append, Some, refl, sym, ap, subst, ◌∙◌, arith, append_assoc, eq-eqb}
use Rattle.std.specs.List.{AllByRecursion}
use Rattle.std.proofs.lemmas.List.Sums.{sum_by-append}
use Rattle.rt_lemmas.proofs.Bools.{true_and_false}
use Rattle.rt_lemmas.proofs.Membership.{all_weaker}
use Rattle.rt_ids.specs.declared.ids.Section.TheVariants as section
use Rattle.rt_actions.specs.Location.{Guarded}
use Rattle.rt_actions.specs.Content.{Message, messages}
use Rattle.rt_trace.specs.Label.{Label, Arrived, Stepped, steps_of}
use Rattle.rt_trace.specs.declared.item.What.TheVariants as what
use Rattle.rt_trace.proofs.LabelsShown.{steps_cons, steps_join}
use Rattle.rt_app.specs.Tree.{App}
use Rattle.rt_app.specs.Accepted.{IsAccepted}
use Rattle.rt_app.specs.Bodies.{task_priority}
use Rattle.rt_app.specs.Level.{levels}
use Rattle.rt_app.specs.Sending.{dispatcher_number}
use Rattle.rt_laws.specs.State.{Serving, Job, State, first}
use Rattle.rt_laws.specs.Run.{RunsOn}
use Rattle.rt_laws.specs.ByItems.{after_all}
use Rattle.rt_laws.specs.Observer.{Observer, first_sight}
use Rattle.rt_laws.specs.MessagesWaiting.{is_ready_at, is_start_at, ready_after}
use Rattle.rt_laws.specs.Unspent.{NoneIsSpent}
use Rattle.rt_laws.proofs.ByItems.{after_append}
use Rattle.rt_laws.proofs.Happens.{first_well}
use Rattle.rt_laws.proofs.ItemCounts.{one_if}
use Rattle.rt_laws.proofs.Well.{StateWell}
use Rattle.rt_rta.proofs.OnceInitEnds.{split_at}
use Rattle.rt_rta.specs.Kept.{end_of_init, Kept, InitEnds}
use Rattle.rt_respond.specs.Form.{is_of_form}
use Rattle.rt_respond.specs.Limits.{Limits, AreLimits}
use Rattle.rt_respond.specs.Response.{IsResponse}
use Rattle.rt_respond.specs.declared.handler.Handler.{Handler}
use Rattle.rt_respond.specs.declared.response.Response.TheVariants as response
use Rattle.rt_respond.proofs.Order.{at_itself}
use Rattle.rt_respond_laws.specs.Moments.{IsRoleAt, NothingIsLeft, ComesToNothing}
use Rattle.rt_respond_laws.specs.Started.{ready_of, end_of, RunIn, Dispatches}
use Rattle.rt_respond_laws.specs.Laws.{RunsRunEach}
use Rattle.rt_respond_laws.proofs.Tasks.{task_priority_is}
use Rattle.rt_respond_laws.proofs.Handled.{handler_of_task, IsOfLevel, of_level}
use Rattle.rt_respond_laws.proofs.Turning.{turn, ready}
use Rattle.rt_respond_laws.proofs.Turns.{Turned, first_turned, first_taken, none_first, other_request}
use Rattle.rt_respond_laws.proofs.TurnLaw.{all_turned, runs_front}
use Rattle.rt_respond_laws.proofs.Stretch.{bounded}
use Rattle.rt_respond_laws.proofs.Early.{untaken}
use Rattle.rt_respond_laws.proofs.Coming.{runs_come_to_nothing}
use Rattle.rt_respond_laws.proofs.Serving.{reach}
use Rattle.rt_respond_laws.proofs.Responding.{comes_behind}
use Rattle.rt_respond_laws.proofs.Running.{QueueOn, Same, More, Less, queue_on, StartsIn, starts_in, still_waits}
use Rattle.rt_respond_laws.proofs.Running.{EndsIn, ends_in, started_runs}

module _ (app : App) (accepted : IsAccepted app) (form : is_of_form app ≡ true) (limits : Limits)
    (fine : AreLimits app limits) (labels : List Label) (runs : RunsOn app (first app) labels)
    (kept : Kept limits.every labels) (unspent : NoneIsSpent app labels) (task : ℕ) (h : Handler)
    (dispatches : Dispatches app task h) where
  abbrev p : ℕ
  p = task_priority app task

  pub own_level : h.priority ≡ p
  own_level =
      let of = handler_of_task app accepted h dispatches.declared in
      of.priority ∙ sym (task_priority_is app accepted h.task of.row of.at) ∙ ap (task_priority app) dispatches.runs

  of_it : IsOfLevel app accepted h
  of_it = of_level app accepted h dispatches.declared dispatches.is_dispatcher

  pub level : Contains (levels app) p
  level = subst (Contains (levels app)) own_level of_it.known

  pub number_is : h.number ≡ turn app p
  number_is = of_it.number ∙ ap (dispatcher_number app) own_level

  -- behind the front of the run
  pub record There (front behind : List Label) : Type 0 where
    pub seen : Observer
    pub well : StateWell app (after_all app (first app) front) seen
    pub live : Turned app accepted form p level (after_all app (first app) front)
    pub runs_on : RunsOn app (after_all app (first app) front) behind
    pub counted : ready_after app p front ≡ length (ready app p (after_all app (first app) front).values)

  pub others : (front behind part : List Label) → labels ≡ front ++ (part ++ behind)
      → (irq : ℕ) → Contains part (Arrived irq) → ¬ (turn app p ≡ irq)
  others front behind part is irq there =
      let parts = split_at part (Arrived irq) there in
      other_request app accepted form p level limits.every fine.every irq
      (kept.limited (front ++ parts.0) (parts.1 ++ behind) irq
      (is ∙ ap (λ xs. front ++ (xs ++ behind)) parts.2
      ∙ ap (λ xs. front ++ xs) (append_assoc parts.0 (Arrived irq ∷ parts.1) behind)
      ∙ sym (append_assoc front parts.0 (Arrived irq ∷ (parts.1 ++ behind)))))

  pub there : (front behind : List Label) → labels ≡ front ++ behind → There front behind
  there front behind is =
      let whole = subst (RunsOn app (first app)) is runs in
      let at = reach app accepted front behind (first app) (first_sight app) (first_well app accepted) whole in
      let begun = first_turned app accepted form p level in
      let all = all_turned app accepted form p level front (first app) (first_sight app) (first_well app accepted) begun
      (runs_front app front behind (first app) whole) (others [] behind front is) in
      let count = all.ready in
      let none = none_first app accepted form p level in
      record {
        seen = at.seen;
        well = at.well;
        live = all.turned;
        runs_on = at.runs;
        counted = omega (arith, count, none);
      }

  -- the message that becomes ready here is the last of those that are
  pub record Last (front : List Label) : Type 0 where
    pub before : List Message
    pub message : Message
    pub of_task : message.task ≡ task
    pub is : ready app p (after_all app (first app) (front ++ ready_of task ∷ [])).values ≡ before ++ message ∷ []

  pub last_is : (front behind : List Label) → labels ≡ (front ++ ready_of task ∷ []) ++ behind → Last front
  last_is front behind is =
      let at = there front (ready_of task ∷ behind) (is ∙ append_assoc front (ready_of task ∷ []) behind) in
      by (queue_on app accepted form p level (after_all app (first app) front) at.seen at.well at.live (ready_of task)
      at.runs_on.0)
    where
      is_ready : is_ready_at app p (ready_of task) ≡ true
      is_ready = eq-eqb p p refl

      state_is : after_all app (first app) (front ++ ready_of task ∷ []) ≡ after_all app (after_all app (first app)
          front) (ready_of task ∷ [])
      state_is = after_append app front (ready_of task ∷ []) (first app)

      by : QueueOn app accepted form p level (after_all app (first app) front) (after_all app (after_all app (first app)
          front) (ready_of task ∷ [])) (ready_of task) → Last front
      by (Same no_start no_ready same) =
          absurd (true_and_false (is_ready_at app p (ready_of task)) is_ready no_ready)
      by (More m shows no_start same) = record {
        before = ready app p (after_all app (first app) front).values;
        message = m;
        of_task = task_same m.task task (sym shows);
        is = ap (λ (x : State). ready app p x.values) state_is ∙ same;
      }
        where
          task_same : (a b : ℕ) → ready_of a ≡ ready_of b → a ≡ b
          task_same a b e = cc
      by (Less m shows is_start no_ready same running) =
          absurd (true_and_false (is_ready_at app p (ready_of task)) is_ready no_ready)

  -- a message that waits at a moment at which it comes to nothing starts, and is done
  module _ (before_all behind : List Label) (steps : ℕ) (is : labels ≡ before_all ++ behind)
      (comes : ComesToNothing app h before_all steps behind) (before after_it : List Message) (m : Message)
      (of_task : m.task ≡ task)
      (waits : ready app p (after_all app (first app) before_all).values ≡ before ++ m ∷ after_it) where
    at : There before_all behind
    at = there before_all behind is

    abbrev s : State
    s = after_all app (first app) before_all

    until_runs : RunsOn app s comes.until
    until_runs = runs_front app comes.until comes.behind s (subst (RunsOn app s) comes.parts at.runs_on)

    until_others : (irq : ℕ) → Contains comes.until (Arrived irq) → ¬ (turn app p ≡ irq)
    until_others = others before_all comes.behind comes.until (is ∙ ap (λ xs. before_all ++ xs) comes.parts)

    nothing : NothingIsLeft app h (after_all app s comes.until)
    nothing = subst (NothingIsLeft app h) (after_append app before_all comes.until (first app)) comes.nothing

    empty : ready app p (after_all app s comes.until).values ≡ []
    empty = subst (λ q. messages ((after_all app s comes.until).values (Guarded (section.Ready q))) ≡ []) own_level
        (nothing.ready h dispatches.declared dispatches.is_dispatcher (at_itself h))

    gone : AllByRecursion (λ job. ¬ (job.role ≡ Serving (turn app p))) (after_all app s comes.until).jobs
    gone = all_weaker (λ (job : Job). ¬ IsRoleAt app h job.role) (λ (job : Job). ¬ (job.role ≡ Serving (turn app p)))
        (λ job none role. none (subst (IsRoleAt app h) (sym role) (record {
          handler = h;
          serves = record { declared = dispatches.declared; number = number_is };
          at = at_itself h;
        }))) (after_all app s comes.until).jobs nothing.jobs

    abbrev starting : Label
    starting = Stepped (Some (what.Start m.task m.args))

    starts : StartsIn app accepted form p level s m (length before) comes.until
    starts = starts_in app accepted form p level comes.until s at.seen at.well at.live until_runs until_others before
        after_it m waits empty

    ends : EndsIn app accepted form p level m.task starts.behind
    ends = ends_in app accepted form p level starts.behind starts.state starts.seen starts.well starts.live
        starts.runs_on behind_others m.task
        (started_runs app accepted form p level m starts.state.jobs starts.started)
        (subst (λ (x : State). AllByRecursion (λ job. ¬ (job.role ≡ Serving (turn app p))) x.jobs) starts.last gone)
      where
        behind_others : (irq : ℕ) → Contains starts.behind (Arrived irq) → ¬ (turn app p ≡ irq)
        behind_others = others ((before_all ++ starts.waiting) ++ starting ∷ []) comes.behind starts.behind
            (is ∙ ap (λ xs. before_all ++ xs) (comes.parts ∙ ap (λ xs. xs ++ comes.behind) starts.parts)
            ∙ parts_moved before_all starts.waiting starting starts.behind comes.behind)
          where
            parts_moved : (ks bs : List Label) (l : Label) (cs ds : List Label)
                → ks ++ ((bs ++ l ∷ cs) ++ ds) ≡ ((ks ++ bs) ++ l ∷ []) ++ (cs ++ ds)
            parts_moved ks bs l cs ds =
                ap (λ xs. ks ++ xs) (append_assoc bs (l ∷ cs) ds)
                ∙ sym (append_assoc ks bs (l ∷ (cs ++ ds)))
                ∙ sym (append_assoc (ks ++ bs) (l ∷ []) (cs ++ ds))

    pub run_in : RunIn app task (suc (length before)) steps behind
    run_in = subst (λ t. RunIn app t (suc (length before)) steps behind) of_task own
      where
        until_is : comes.until ≡ starts.waiting ++ starting ∷ (ends.running ++ end_of m.task ∷ ends.behind)
        until_is = starts.parts ∙ ap (λ xs. starts.waiting ++ starting ∷ xs) ends.parts

        whole : behind ≡ starts.waiting ++ starting ∷ (ends.running ++ end_of m.task ∷ (ends.behind ++ comes.behind))
        whole =
            comes.parts ∙ ap (λ xs. xs ++ comes.behind) until_is
            ∙ append_assoc starts.waiting (starting ∷ (ends.running ++ end_of m.task ∷ ends.behind)) comes.behind
            ∙ ap (λ xs. starts.waiting ++ starting ∷ xs)
            (append_assoc ends.running (end_of m.task ∷ ends.behind) comes.behind)

        own : RunIn app m.task (suc (length before)) steps behind
        own =
            let time = comes.in_time in
            let count = ap steps_of until_is in
            let first = steps_join starts.waiting (starting ∷ (ends.running ++ end_of m.task ∷ ends.behind)) in
            let second = steps_cons starting (ends.running ++ end_of m.task ∷ ends.behind) in
            let third = steps_join ends.running (end_of m.task ∷ ends.behind) in
            let fourth = steps_cons (end_of m.task) ends.behind in
            record {
              waiting = starts.waiting;
              args = m.args;
              running = ends.running;
              behind = ends.behind ++ comes.behind;
              parts = whole;
              turn = ap suc (subst (λ t. count_by (is_start_at app (task_priority app t)) starts.waiting
                  ≡ length before) (sym of_task) starts.turn_is);
              first_end = ends.first_end;
              in_time = omega (arith, time, count, first, second, third, fourth);
            }

  pub long_is : (front behind : List Label) (is : labels ≡ (front ++ ready_of task ∷ []) ++ behind) (last : Last front)
      → suc (length last.before) ≡ ready_after app p (front ++ ready_of task ∷ [])
  long_is front behind is last =
      let counted = (there (front ++ ready_of task ∷ []) behind is).counted in
      let long = ap length last.is in
      let sum = length-append last.before (last.message ∷ []) in
      omega (arith, counted, long, sum)

  pub readied_run : (front behind : List Label) → labels ≡ (front ++ ready_of task ∷ []) ++ behind
      → Contains front end_of_init → (steps : ℕ) → IsResponse app limits.every h (response.Steps steps)
      → steps ≤ steps_of behind → RunIn app task (ready_after app p (front ++ ready_of task ∷ [])) steps behind
  readied_run front behind is ended steps answer enough =
      let last = last_is front behind is in
      subst (λ n. RunIn app task n steps behind) (long_is front behind is last)
      (run_in (front ++ ready_of task ∷ []) behind steps is
      (comes_behind app accepted form limits fine labels runs kept unspent front behind (ready_of task) h steps
      (is ∙ append_assoc front (ready_of task ∷ []) behind) ended h.number
      (record { declared = dispatches.declared; number = refl }) answer enough)
      last.before [] last.message last.of_task last.is)

  pub early_run : (front rest during behind : List Label) → InitEnds labels during behind
      → during ≡ (front ++ ready_of task ∷ []) ++ rest → (steps : ℕ)
      → IsResponse app limits.every h (response.Steps steps) → steps ≤ steps_of behind
      → RunIn app task (ready_after app p (front ++ ready_of task ∷ [])) steps behind
  early_run front rest during behind ends parts steps answer enough =
      let last = last_is front (rest ++ end_of_init ∷ behind) whole in
      let at = there (front ++ ready_of task ∷ []) (rest ++ end_of_init ∷ behind) whole in
      let still = still_waits app accepted form p level (rest ++ end_of_init ∷ [])
      (after_all app (first app) (front ++ ready_of task ∷ [])) at.seen at.well at.live
      (runs_front app (rest ++ end_of_init ∷ []) behind
      (after_all app (first app) (front ++ ready_of task ∷ []))
      (subst (RunsOn app (after_all app (first app) (front ++ ready_of task ∷ []))) tail at.runs_on))
      (others (front ++ ready_of task ∷ []) behind (rest ++ end_of_init ∷ []) (whole
      ∙ ap (λ xs. (front ++ ready_of task ∷ []) ++ xs) tail)) none_started last.before [] last.message last.is in
      subst (λ n. RunIn app task n steps behind) (long_is front (rest ++ end_of_init ∷ behind) whole last)
      (run_in (during ++ end_of_init ∷ []) behind steps
      (ends.parts ∙ sym (append_assoc during (end_of_init ∷ []) behind))
      (runs_come_to_nothing app accepted form limits fine labels runs kept unspent h dispatches.declared steps answer
      during [] behind ends enough) last.before still.0 last.message last.of_task
      (ap (λ (x : State). ready app p x.values) state_is ∙ still.1))
    where
      whole : labels ≡ (front ++ ready_of task ∷ []) ++ (rest ++ end_of_init ∷ behind)
      whole = ends.parts ∙ ap (λ xs. xs ++ end_of_init ∷ behind) parts
          ∙ append_assoc (front ++ ready_of task ∷ []) rest (end_of_init ∷ behind)

      tail : rest ++ end_of_init ∷ behind ≡ (rest ++ end_of_init ∷ []) ++ behind
      tail = sym (append_assoc rest (end_of_init ∷ []) behind)

      state_is : after_all app (first app) (during ++ end_of_init ∷ []) ≡ after_all app (after_all app (first app)
          (front ++ ready_of task ∷ [])) (rest ++ end_of_init ∷ [])
      state_is =
          ap (λ xs. after_all app (first app) (xs ++ end_of_init ∷ [])) parts
          ∙ ap (after_all app (first app)) (append_assoc (front ++ ready_of task ∷ []) rest (end_of_init ∷ []))
          ∙ after_append app (front ++ ready_of task ∷ []) (rest ++ end_of_init ∷ []) (first app)

      -- no message starts before `init` ends
      none_started : count_by (is_start_at app p) (rest ++ end_of_init ∷ []) ≡ 0
      none_started =
          let none = untaken app accepted form limits.every fine.every h dispatches.declared steps
          (bounded app limits.every h steps answer.0 answer.1) labels during behind runs kept unspent ends.parts
          ends.first_end (turn app p) in
          let own = runs_front app during (end_of_init ∷ behind) (first app) (subst (RunsOn app (first app)) ends.parts
          runs) in
          let all = all_turned app accepted form p level during (first app) (first_sight app) (first_well app accepted)
          (first_turned app accepted form p level) own (others [] (end_of_init ∷ behind) during ends.parts) in
          let count = all.count in
          let begun = first_taken app accepted form p level in
          let parts_count = ap (count_by (is_start_at app p)) parts in
          let split = counts_join (front ++ ready_of task ∷ []) rest in
          let last = counts_join rest (end_of_init ∷ []) in
          omega (arith, none, count, begun, parts_count, split, last)
        where
          counts_join : (xs ys : List Label) → count_by (is_start_at app p) (xs ++ ys)
              ≡ count_by (is_start_at app p) xs + count_by (is_start_at app p) ys
          counts_join xs ys = sum_by-append (λ l. one_if (is_start_at app p l)) xs ys

pub runs_run_each : RunsRunEach
runs_run_each app accepted form limits fine labels runs kept unspent = record {
  readied = λ front behind task is ended h steps dispatches answer enough.
      readied_run app accepted form limits fine labels runs kept unspent task h dispatches front behind is ended steps
      answer enough;
  readied_during = λ front rest during behind task ends parts h steps dispatches answer enough.
      early_run app accepted form limits fine labels runs kept unspent task h dispatches front rest during behind ends
      parts steps answer enough;
}

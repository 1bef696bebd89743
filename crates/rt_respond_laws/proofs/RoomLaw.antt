-- No more places of a task are out than the report says, and where it has as many, no spawn finds it full.
use Rattle.std.proofs.Common.{◌≡◌, ℕ, ◌+◌, ◌≤◌, ◌⊎◌, inl, inr, Bool, true, false, if◌then◌else◌, List, [], ◌∷◌}
use Rattle.std.proofs.Common.{◌++◌, Contains, slice_get, option_map, Some, refl, ap, subst, ◌∙◌, sym}
use Rattle.std.proofs.Common.{arith, eq-eqb, append_assoc}
use Rattle.std.proofs.lemmas.Bool.{cases_lt}
use Rattle.std.proofs.lemmas.Option.{none-some}
use Rattle.rt_lemmas.proofs.Membership.{all_at}
use Rattle.rt_ids.specs.Choice.{IsIn}
use Rattle.rt_ids.specs.declared.ids.Section.{Section}
use Rattle.rt_ids.specs.declared.ids.Section.TheVariants as section
use Rattle.rt_ids.specs.declared.limits.TheConstants.{CAPACITY}
use Rattle.rt_ids.specs.Lists.{or_zero}
use Rattle.rt_actions.specs.Action.{FindsFull, SetsAlarm, Returns}
use Rattle.rt_actions.specs.Location.{Guarded}
use Rattle.rt_actions.specs.Content.{Values, number}
use Rattle.rt_actions.specs.Doing.{Doing, over, does}
use Rattle.rt_trace.specs.Label.{Label, Stepped}
use Rattle.rt_trace.specs.declared.item.What.TheVariants as what
use Rattle.rt_app.specs.Tree.{Task, App}
use Rattle.rt_app.specs.Accepted.{IsAccepted}
use Rattle.rt_app.specs.Limits.{KeepsTaskLimits}
use Rattle.rt_app.specs.Sending.{capacity_of}
use Rattle.rt_laws.specs.Allowed.{May, after}
use Rattle.rt_laws.specs.ByItems.{after_all}
use Rattle.rt_laws.specs.Giving.{next_instant, is_due, return_item, next_item, item_given}
use Rattle.rt_laws.specs.Observer.{Observer, first_sight}
use Rattle.rt_laws.specs.Run.{RunsOn}
use Rattle.rt_laws.specs.State.{Role, Init, Idle, Waiting, Serving, Job, State, first}
use Rattle.rt_laws.specs.Unspent.{NoneIsSpent}
use Rattle.rt_laws.proofs.ByItems.{after_append}
use Rattle.rt_laws.proofs.Happens.{first_well}
use Rattle.rt_laws.proofs.Well.{NextKept, AllKept, StateWell}
use Rattle.rt_rta.specs.Kept.{end_of_init, Kept, InitEnds}
use Rattle.rt_rta.proofs.OnceInitEnds.{split_at}
use Rattle.rt_rta.proofs.Spacing.{spaced}
use Rattle.rt_respond.specs.Form.{is_of_form}
use Rattle.rt_respond.specs.Handlers.{handlers}
use Rattle.rt_respond.specs.Limits.{Limits, AreLimits}
use Rattle.rt_respond.specs.Response.{IsResponse}
use Rattle.rt_respond.specs.Room.{room}
use Rattle.rt_respond.specs.declared.handler.Handler.{Handler}
use Rattle.rt_respond.specs.declared.number.TheConstants.{MOST_WORK}
use Rattle.rt_respond.specs.declared.response.Response.{Response}
use Rattle.rt_respond.specs.declared.response.Response.TheVariants as response
use Rattle.rt_respond_laws.specs.Laws.{RunsHaveRoom}
use Rattle.rt_respond_laws.specs.Rooms.{places_out, NeedsRoom}
use Rattle.rt_respond_laws.proofs.Handled.{handler_of_task}
use Rattle.rt_respond_laws.proofs.Sending.{place_taken}
use Rattle.rt_respond_laws.proofs.Stretch.{Bounded, bounded}
use Rattle.rt_respond_laws.proofs.Coming.{spaced_behind}
use Rattle.rt_respond_laws.proofs.Serving.{first_end_or_none, reach}
use Rattle.rt_respond_laws.proofs.Rooming.{By}
use Rattle.rt_respond_laws.proofs.RoomRuns.{RoomBound, room_bound}
use Rattle.rt_respond_laws.proofs.RoomWalk.{RoomAt, walk_room, out_at, asks_at}
use Rattle.rt_respond_laws.proofs.RoomEarly.{EarlyAt, out_within_begin, begin_asks, walk_early, first_room, ends_room}

-- where a spawn finds a task full, all its places are out
module _ (app : App) (s : State) (n : ℕ) where
  abbrev IsFull : ℕ → Type 0
  IsFull k = number (s.values (Guarded (section.Free k))) ≡ capacity_of app k

  full_by : (role : Role) (held : List Section) (rest : Doing Values) → NextKept app s.time s.values held rest
      → next_item s role rest ≡ Some (what.Full n) → IsFull n
  full_by role held over next is = absurd (none-some _ is)
  full_by role held (does (FindsFull k) made later) next is = subst IsFull (same_task is) next.1
    where
      same_task : Some (what.Full k) ≡ Some (what.Full n) → k ≡ n
      same_task same = cc
  full_by role held (does SetsAlarm made later) next is = absurd (by (is_due s.time (next_instant s)) is)
    where
      by : (due : Bool) → Some (if due then what.Alarm else what.AlarmSet) ≡ Some (what.Full n) → ⊥
      by true same = cc
      by false same = cc
  full_by role held (does Returns made later) next is = absurd (by role is)
    where
      by : (r : Role) → return_item r ≡ Some (what.Full n) → ⊥
      by Init same = cc
      by Idle same = cc
      by Waiting same = cc
      by (Serving irq) same = cc
  full_by role held (does action made later) next is = cc

  full_given : (js : List Job) → AllKept app s.time s.values js → item_given s js ≡ Some (what.Full n) → IsFull n
  full_given [] order is = absurd (none-some _ is)
  full_given (job ∷ others) order is = full_by job.role job.sections job.rest order.0 is

  full_out : (v : Observer) → StateWell app s v → May app s (Stepped (Some (what.Full n))) → IsFull n
  full_out v well may = full_given s.jobs well.order may.1

-- an accepted application's capacities are few
capacity_few : (app : App) → IsAccepted app → (n : ℕ) (t : Task) → slice_get app.tasks n ≡ Some t
    → capacity_of app n ≤ CAPACITY
capacity_few app accepted n t at =
    let most = (all_at KeepsTaskLimits app.tasks n t accepted.limits.tasks at).most_capacity in
    let same : capacity_of app n ≡ t.capacity = ap (λ o. or_zero (option_map (λ (x : Task). x.capacity) o)) at in
    omega (arith, most, same)

module _ (app : App) (accepted : IsAccepted app) (form : is_of_form app ≡ true) (limits : Limits)
    (fine : AreLimits app limits) (labels : List Label) (runs : RunsOn app (first app) labels)
    (kept : Kept limits.every labels) (unspent : NoneIsSpent app labels) where
  -- of a task, no more places are out than these, and where it has as many, no spawn finds it full
  record Keeps (task most : ℕ) : Type 0 where
    within : (front behind : List Label) → labels ≡ front ++ behind → places_out app task front ≤ most
    never_full : most ≤ capacity_of app task → ¬ Contains labels (Stepped (Some (what.Full task)))

  module _ (i : Handler) (declared : IsIn (handlers app) i) (dispatches : i.is_dispatcher ≡ true) where
    few : capacity_of app i.task ≤ CAPACITY
    few = let of = handler_of_task app accepted i declared in capacity_few app accepted i.task of.row of.at

    -- more than any capacity
    keeps_any : (most : ℕ) → MOST_WORK ≤ most + 1 → Keeps i.task most
    keeps_any most great = record {
      within = λ front behind is.
          let at = reach app accepted front behind (first app) (first_sight app) (first_well app accepted)
          (subst (RunsOn app (first app)) is runs) in
          let places = at.well.queued.out i.task in
          let capacity = few in
          let sixteen : CAPACITY ≡ 16 = refl in
          let work : MOST_WORK ≡ 1000000000000 = refl in omega (arith, places, capacity, sixteen, work, great);
      never_full = λ fits there.
          let capacity = few in
          let sixteen : CAPACITY ≡ 16 = refl in
          let work : MOST_WORK ≡ 1000000000000 = refl in omega (arith, fits, capacity, sixteen, work, great);
    }

    module _ (least most : ℕ) (bound : Bounded app limits.every i least)
        (space : RoomBound app limits.every i least most) where
      abbrev EarlyThere : State → List Label → Type 0
      EarlyThere = EarlyAt app accepted form limits.every fine.every i declared dispatches least most bound space

      abbrev There : State → List Label → Type 0
      There = RoomAt app accepted form limits.every fine.every i declared dispatches least most bound space

      abbrev state_at : List Label → State
      state_at front = after_all app (first app) front

      -- before the end of `init`
      early_at : (front behind : List Label) → labels ≡ front ++ behind → ¬ Contains front end_of_init
          → EarlyThere (state_at front) behind
      early_at front behind is none =
          walk_early app accepted form limits.every fine.every i declared dispatches least most bound space front
          behind (first app)
          (first_sight app) (λ q. 0)
          (first_room app accepted form limits.every fine.every i declared dispatches least most bound space labels
          front behind
          runs kept unspent is) none

      -- and behind it
      late_at : (during between behind : List Label) → labels ≡ during ++ end_of_init ∷ (between ++ behind)
          → ¬ Contains during end_of_init → There (state_at (during ++ end_of_init ∷ between)) behind
      late_at during between behind parts first_end =
          let early = early_at during (end_of_init ∷ (between ++ behind)) parts first_end in
          subst (λ s. There s behind) (sym (after_append app during (end_of_init ∷ between) (first app)))
          (walk_room app accepted form limits.every fine.every i declared dispatches least most bound space between
          behind
          (after app (state_at during) end_of_init)
          (ends_room app accepted form limits.every fine.every i declared dispatches least most bound space
          (between ++ behind)
          (state_at during) early.seen early.paid early.there
          (spaced limits.every (between ++ behind) (λ irq. 0)
          (spaced_behind app accepted form limits.every fine.every i declared least bound labels during
          (between ++ behind) kept
          parts))))

      at : (front behind : List Label) → labels ≡ front ++ behind
          → EarlyThere (state_at front) behind ⊎ There (state_at front) behind
      at front behind is = elim (first_end_or_none front) [
        | inl none ↦ inl (early_at front behind is none)
        | inr ends ↦ inr (later ends.0 ends.1 ends.2)
      ]
        where
          later : (during between : List Label) → InitEnds front during between → There (state_at front) behind
          later during between ends =
              subst (λ xs. There (state_at xs) behind) (sym ends.parts)
              (late_at during between behind
              (is ∙ ap (λ xs. xs ++ behind) ends.parts ∙ append_assoc during (end_of_init ∷ between) behind)
              ends.first_end)

      begin_within_most : space.begin ≤ most
      begin_within_most =
          let within = space.begin_within in let sum = space.sum in omega (arith, within, sum)

      out_within : (front behind : List Label) → labels ≡ front ++ behind → places_out app i.task front ≤ most
      out_within front behind is = elim (at front behind is) [
        | inl early ↦
            let few_out = out_within_begin app accepted form limits.every fine.every i declared dispatches least most
            bound space
            (state_at front) early.seen early.paid behind early.there in
            let within = begin_within_most in omega (arith, few_out, within)
        | inr there ↦
            out_at app accepted form limits.every fine.every i declared dispatches least most bound space
            (state_at front) behind
            there
      ]

      one_place : place_taken (By app accepted form i declared space.hold space.hold_is space.few)
          (Some (what.Full i.task)) ≡ 1
      one_place = ap (λ b. if b then 1 else 0) (eq-eqb i.task i.task refl)

      none_full : most ≤ capacity_of app i.task → (front behind : List Label)
          → labels ≡ front ++ Stepped (Some (what.Full i.task)) ∷ behind → ⊥
      none_full fits front behind is = elim (at front (Stepped (Some (what.Full i.task)) ∷ behind) is) [
        | inl early ↦
            let asks = begin_asks app accepted form limits.every fine.every i declared dispatches least most bound space
            (state_at front) early.seen early.paid (Some (what.Full i.task)) behind early.there (λ same. cc) in
            let full = full_out app (state_at front) i.task early.seen early.there.early.well early.there.early.runs.0
            in
            let one = one_place in
            let within = begin_within_most in omega (arith, asks, full, one, within, fits)
        | inr there ↦
            let asks = asks_at app accepted form limits.every fine.every i declared dispatches least most bound space
            (state_at front) (Some (what.Full i.task)) behind there in
            let full = full_out app (state_at front) i.task there.seen there.moment.well there.moment.runs.0 in
            let one = one_place in omega (arith, asks, full, one, fits)
      ]

      keeps : Keeps i.task most
      keeps = record {
        within = out_within;
        never_full = λ fits there.
            let parts = split_at labels (Stepped (Some (what.Full i.task))) there in
            none_full fits parts.0 parts.1 parts.2;
      }

    -- where the report says so
    keeps_report : (most : ℕ) (answer : Response) → IsResponse app limits.every i answer
        → room app limits.every i answer ≡ Some most → Keeps i.task most
    keeps_report most response.Cycle answer is = absurd (none-some most is)
    keeps_report most response.Over answer is = absurd (none-some most is)
    keeps_report most (response.Steps least) answer is = elim (cases_lt (most + 1) MOST_WORK) [
      | inl small ↦ keeps least most (bounded app limits.every i least answer.0 answer.1)
          (room_bound app accepted form limits.every i declared dispatches least most is small)
      | inr great ↦ keeps_any most great
    ]

  keeps_room : (task most : ℕ) → NeedsRoom app limits task most → Keeps task most
  keeps_room task most needs =
      subst (λ n. Keeps n most) needs.dispatches.runs
      (keeps_report needs.dispatcher needs.dispatches.declared needs.dispatches.is_dispatcher most needs.response
      needs.is_response needs.room_is)

pub runs_have_room : RunsHaveRoom
runs_have_room app accepted form limits fine labels runs kept unspent = record {
  within = λ task most needs.
      (keeps_room app accepted form limits fine labels runs kept unspent task most needs).within;
  never_full = λ task most needs.
      (keeps_room app accepted form limits fine labels runs kept unspent task most needs).never_full;
}

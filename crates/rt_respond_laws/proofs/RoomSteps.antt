-- What a core step does to the places of a dispatcher's task: what is asked for, in reserve and out stays within the
-- same number.
use Rattle.std.proofs.Common.{◌≡◌, ℕ, ◌+◌, ◌≤◌, ◌<◌, inl, inr, true, false, List, [], ◌∷◌, slice_set, slice_index_or}
use Rattle.std.proofs.Common.{Option}
use Rattle.std.proofs.Common.{Some, refl, ap, subst, sym, arith}
use Rattle.rt_ids.specs.Choice.{IsIn}
use Rattle.rt_trace.specs.Label.{Label, Stepped}
use Rattle.rt_trace.specs.declared.item.What.{What}
use Rattle.rt_trace.specs.declared.item.What.TheVariants as what
use Rattle.rt_app.specs.Tree.{App}
use Rattle.rt_app.specs.Accepted.{IsAccepted}
use Rattle.rt_laws.specs.Allowed.{May, state_after_start, after}
use Rattle.rt_laws.specs.Observer.{Observer}
use Rattle.rt_laws.specs.Places.{Hand, hands_behind, in_transit, arming_count, ready_of}
use Rattle.rt_laws.specs.Preemption.{system_ceiling, candidate}
use Rattle.rt_laws.specs.Services.{service_at}
use Rattle.rt_app.specs.Handlers.{Service}
use Rattle.rt_lemmas.proofs.Bools.{true_and_false, not_so, not_false}
use Rattle.rt_respond.proofs.Order.{IsLater, later_if}
use Rattle.rt_laws.specs.State.{Serving, Job, State}
use Rattle.rt_laws.proofs.Placed.{Placed, told_behind}
use Rattle.rt_laws.proofs.Well.{StateWell}
use Rattle.rt_rta.specs.Limits as rta
use Rattle.rt_rta.specs.declared.limits.Limit.{Limit}
use Rattle.rt_respond.specs.Form.{is_of_form}
use Rattle.rt_respond.specs.Handlers.{handlers, stands_before, is_at}
use Rattle.rt_respond.specs.Blocking.{blocking}
use Rattle.rt_respond.specs.declared.handler.Quantity.TheVariants as counted
use Rattle.rt_respond.specs.declared.handler.Handler.{Handler}
use Rattle.rt_respond.specs.declared.number.TheConstants.{MOST_WORK}
use Rattle.rt_respond_laws.specs.Moments.{IsRoleAt, NothingIsLeft}
use Rattle.rt_respond_laws.proofs.Weights.{room_at, Weighs}
use Rattle.rt_respond_laws.proofs.Sending.{head_in, place_taken}
use Rattle.rt_respond_laws.proofs.Claims.{IsTight, sets_none}
use Rattle.rt_respond_laws.proofs.Cases.{StepCase, Takes, Goes}
use Rattle.rt_respond_laws.proofs.Passing.{Passes, Passed}
use Rattle.rt_respond_laws.proofs.Turning.{turn}
use Rattle.rt_respond_laws.proofs.Lowering.{handler, row, not_at, its_role}
use Rattle.rt_respond_laws.proofs.Handled.{RowOf}
use Rattle.rt_respond_laws.proofs.Standing.{Stands}
use Rattle.rt_respond_laws.proofs.Transits.{all_fall, out_below}
use Rattle.rt_respond_laws.proofs.Still.{none_ask, nothing_loads}
use Rattle.rt_respond_laws.proofs.Waits.{Wanted, Paid, Pays, Lowers}
use Rattle.rt_respond_laws.proofs.Taking.{own_pending, above, at_taken, take_lowers_it, take_quiet}
use Rattle.rt_respond_laws.proofs.Loads.{job_lowers, job_quiet, reaches}
use Rattle.rt_respond_laws.proofs.Paying.{paid_behind, take_same, pays_on, paid_on, IsLimited}
use Rattle.rt_respond_laws.proofs.Rooming.{By, others_at, OwesWith, LeavesRoom, JobThere, JobClosed, LeavesEnough}
use Rattle.rt_respond_laws.proofs.Rooming.{HaveRoom, room_less, out, Roomed, out_on, have_on, under_it, room_any}
use Rattle.rt_respond_laws.proofs.Rooming.{owes_any, Filled, fill, small}

module _ (app : App) (accepted : IsAccepted app) (form : is_of_form app ≡ true) (limits : List Limit)
    (fine : rta.AreLimits app limits) (i : Handler) (declared : IsIn (handlers app) i) (hold : ℕ)
    (hold_is : blocking app (counted.Messages i.task) i ≡ Some hold)
    (few : Weighs app (counted.Messages i.task) i hold) where
  abbrev p : ℕ
  p = i.priority

  abbrev PaidIn : State → (ℕ → ℕ) → Type 0
  PaidIn = Paid app accepted form (counted.Messages i.task) i declared hold hold_is few

  abbrev RoomedIn : State → List Hand → (ℕ → ℕ) → ℕ → Type 0
  RoomedIn = Roomed app accepted form i declared hold hold_is few

  abbrev HaveIn : ℕ → List Job → List Hand → Type 0
  HaveIn = HaveRoom app accepted form i declared hold hold_is few

  abbrev LowersIn : State → State → List Hand → Label → (ℕ → ℕ) → (ℕ → ℕ) → ℕ → ℕ → ℕ → Type 0
  LowersIn = Lowers app accepted form (counted.Messages i.task) i declared hold hold_is few

  -- at each moment, where so many turns are paid
  pub record InRoom (s : State) (hands : List Hand) (paid : ℕ → ℕ) (most : ℕ) : Type 0 where
    pub now : PaidIn s paid
    pub roomed : RoomedIn s hands paid most

  module _ (s : State) (v : Observer) (well : StateWell app s v) (shown : Option What)
      (may : May app s (Stepped shown)) (case : StepCase app accepted s v shown) (hands : List Hand) (ws : List What)
      (placed : Placed app ws hands s)
      (placed_then : Placed app (told_behind ws (Stepped shown)) (hands_behind hands (Stepped shown))
      (after app s (Stepped shown))) (paid : ℕ → ℕ) (now : PaidIn s paid) where
    abbrev t : State
    t = after app s (Stepped shown)

    abbrev then_paid : ℕ → ℕ
    then_paid = paid_behind app (Stepped shown) paid

    no_request : IsLimited app accepted form (counted.Messages i.task) i declared hold hold_is few limits fine
        (Stepped shown)
    no_request irq is = cc

    pays : Pays app accepted form (counted.Messages i.task) i declared hold hold_is few (Stepped shown) paid then_paid
    pays = pays_on app accepted form (counted.Messages i.task) i declared hold hold_is few limits fine s v well
        (Stepped shown) may no_request paid now

    -- what is so behind the step, which asked for no more places than this
    abbrev pub StepRoom : ℕ → Type 0
    StepRoom most = InRoom t (hands_behind hands (Stepped shown)) then_paid most
        × (out app accepted form i declared hold hold_is few s
        + place_taken (By app accepted form i declared hold hold_is few) shown ≤ most)

    -- what a step lowers, and the room that it leaves
    abbrev Both : (reserve all : ℕ) → Option What → State → ℕ → Type 0
    Both reserve all w r spent = (lowers : LowersIn s r hands (Stepped w) paid then_paid reserve all spent)
        × HaveIn lowers.reserve_then r.jobs (hands_behind hands (Stepped w))

    -- and what the running job's step does
    abbrev JobLowersBy : (job : Job) (others : List Job) (reserve all : ℕ) → List Hand → Type 0
    JobLowersBy job others reserve all hs = (lowers : LowersIn s t hs (Stepped shown) paid then_paid reserve all
        (0 + place_taken (By app accepted form i declared hold hold_is few) shown))
        × (¬ IsRoleAt app i job.role → IsTight (By app accepted form i declared hold hold_is few) reserve
        lowers.reserve_then hs shown others t)

    behind : (most : ℕ) → (roomed : RoomedIn s hands paid most)
        → Both roomed.reserve roomed.all shown t
        (0 + place_taken (By app accepted form i declared hold hold_is few) shown)
        → StepRoom most
    behind most roomed both = (
      record {
        now = paid_on app accepted form (counted.Messages i.task) i declared hold hold_is few limits fine s v well
            (Stepped shown) may no_request paid now both.0.numbered both.0.known;
        roomed = record {
          reserve = both.0.reserve_then;
          all = both.0.all_then;
          owes = both.0.owes;
          have = both.1;
          owing =
              let sum = both.0.sum in
              let before = roomed.owing in
              let places = out_on app accepted form i declared hold hold_is few ws hands
              (hands_behind hands (Stepped shown)) s t (Stepped shown) placed placed_then in
              omega (arith, sum, before, places);
        };
      },
      let sum = both.0.sum in let before = roomed.owing in omega (arith, sum, before),
    )

    room_on : (job : Job) (others : List Job) (reserve later : ℕ) (hs : List Hand) → later ≤ reserve
        → HaveIn reserve (job ∷ others) hs
        → (¬ IsRoleAt app i job.role
        → IsTight (By app accepted form i declared hold hold_is few) reserve later hs shown others t)
        → (¬ IsRoleAt app i job.role → reserve + head_in (By app accepted form i declared hold hold_is few) hs
        + others_at app accepted form i declared hold hold_is few job.priority ≤ hold)
        → Passes app s job others shown t → HaveIn later t.jobs (hands_behind hs (Stepped shown))
    room_on job others reserve later [] less have tight enough passes = absurd have
    room_on job others reserve later (hand ∷ hs) less have tight enough passes =
        have_on app accepted form i declared hold hold_is few s t shown job others reserve later hand hs less have tight
        enough passes

    -- where something is left
    pub room_left : (most : ℕ) → most + 1 < MOST_WORK → RoomedIn s hands paid most → Wanted app i s
        → StepRoom most
    room_left most small roomed wanted = behind most roomed (by case)
      where
        below : roomed.all + roomed.reserve + 1 < MOST_WORK
        below = let owing = roomed.owing in omega (arith, owing, small)

        by : StepCase app accepted s v shown
            → Both roomed.reserve roomed.all shown t (0 + place_taken (By app accepted form i declared hold hold_is few)
            shown)
        by (Takes irq is x at depth shown_is) =
            subst (λ (w : Option What). Both roomed.reserve roomed.all w (after app s (Stepped w))
            (0 + place_taken (By app accepted form i declared hold hold_is few) w)) (sym shown_is)
            (subst (λ o. Both roomed.reserve roomed.all (Some (what.Take irq depth))
            (state_after_start app (record s { pending = slice_set s.pending irq false }) irq o) 0) (sym at) (
              lowers,
              (
                JobThere role,
                room_less app accepted form i declared hold hold_is few roomed.reserve
                    lowers.reserve_then s.jobs hands lowers.less roomed.have,
              ),
            ))
          where
            role : IsRoleAt app i (Serving irq)
            role = its_role app accepted form (counted.Messages i.task) i declared hold hold_is few irq x at
                (at_taken app accepted form (counted.Messages i.task) i declared hold hold_is few s paid now irq depth
                is x at wanted)

            lowers : LowersIn s (state_after_start app (record s { pending = slice_set s.pending irq false }) irq
                (Some x)) hands (Stepped (Some (what.Take irq depth))) paid then_paid roomed.reserve roomed.all 0
            lowers =
                subst (λ hs. LowersIn s (state_after_start app (record s { pending = slice_set s.pending irq false })
                irq (Some x)) hs (Stepped (Some (what.Take irq depth))) paid then_paid roomed.reserve roomed.all 0)
                roomed.owes.1
                (take_lowers_it app accepted form (counted.Messages i.task) i declared hold hold_is few s paid now irq
                depth is x at (take_same app accepted s well.queued irq x at) then_paid
                (subst (λ w. Pays app accepted form (counted.Messages i.task) i declared hold hold_is few (Stepped w)
                paid then_paid) shown_is pays) roomed.reserve roomed.all roomed.owes.0 wanted
                (let owing = roomed.owing in omega (arith, owing, small)))
        by (Goes given u step has no_take passed) = (both.0, leaves)
          where
            own : OwesWith app accepted form i declared hold hold_is few roomed.reserve roomed.all hands
                (step.job ∷ step.others)
            own = subst (OwesWith app accepted form i declared hold hold_is few roomed.reserve roomed.all hands)
                step.jobs_are roomed.owes

            have : HaveIn roomed.reserve (step.job ∷ step.others) hands
            have = subst (λ js. HaveIn roomed.reserve js hands) step.jobs_are roomed.have

            passes : Passed app s step.job step.others shown t
            passes = passed (sets_none app (counted.Messages i.task) i (By app accepted form i declared hold hold_is
                few) (room_at app (counted.Messages i.task) i hold) roomed.reserve own.0.0 step.job own.0.3)

            both : JobLowersBy step.job step.others roomed.reserve roomed.all hands
            both = subst (JobLowersBy step.job step.others roomed.reserve roomed.all) roomed.owes.1
                (job_lowers app accepted form (counted.Messages i.task) i declared hold hold_is few s v given shown t u
                step passes roomed.reserve roomed.all paid then_paid now (λ q. no_take (turn app q)) pays below
                roomed.owes.0 has wanted)

            reach : p ≤ system_ceiling app (step.job ∷ step.others)
            reach = subst (λ js. p ≤ system_ceiling app js) step.jobs_are
                (reaches app accepted form (counted.Messages i.task) i declared hold hold_is few s v given shown t u
                step passes roomed.reserve roomed.all paid then_paid now (λ q. no_take (turn app q)) pays below wanted)

            enough : (hs : List Hand) → HaveIn roomed.reserve (step.job ∷ step.others) hs
                → ¬ IsRoleAt app i step.job.role
                → roomed.reserve + head_in (By app accepted form i declared hold hold_is few) hs
                + others_at app accepted form i declared hold hold_is few step.job.priority ≤ hold
            enough [] none off = absurd none
            enough (hand ∷ hs) room off = of room.0
              where
                of : LeavesRoom app accepted form i declared hold hold_is few roomed.reserve hand step.job
                    → roomed.reserve + head_in (By app accepted form i declared hold hold_is few) (hand ∷ hs)
                    + others_at app accepted form i declared hold hold_is few step.job.priority ≤ hold
                of (JobThere there) = absurd (off there)
                of (JobClosed none lower closed) =
                    let deeper = under_it app accepted form i declared hold hold_is few step.job.role step.job.priority
                    step.others step.above (omega (arith, lower)) in
                    absurd (omega (arith, reach, lower, closed, deeper))
                of (LeavesEnough none within) = within

            leaves : HaveIn both.0.reserve_then t.jobs (hands_behind hands (Stepped shown))
            leaves = room_on step.job step.others roomed.reserve both.0.reserve_then hands both.0.less have both.1
                (enough hands have) passes.passes

    -- where nothing is
    module _ (dispatches : i.is_dispatcher ≡ true) (stands : Stands app accepted form i hold hold_is few s hands)
        (nothing : NothingIsLeft app i s)
        (counted_out : out app accepted form i declared hold hold_is few s
        ≡ in_transit i.task hands + arming_count i.task s.values + ready_of app i.task s.values) where
      -- a take's own handler is not at the dispatcher
      module _ (irq depth : ℕ) (best_is : candidate app s ≡ Some irq) (x : Service)
          (at : service_at app irq ≡ Some x) where
        abbrev own : Handler
        own = handler app accepted form (counted.Messages i.task) i declared hold hold_is few irq x at

        abbrev own_row : RowOf app accepted form irq x
        own_row = row app accepted form (counted.Messages i.task) i declared hold hold_is few irq x at

        off : is_at i own ≡ true → ⊥
        off there =
            true_and_false (slice_index_or s.pending irq false)
            (own_pending app accepted form (counted.Messages i.task) i declared hold hold_is few s paid now irq depth
            best_is x at)
            (nothing.pending irq (record {
              handler = own;
              serves = record { declared = own_row.declared; number = own_row.number };
              at = there;
            }))

        behind_it : is_at i own ≡ false
        behind_it = not_so (is_at i own) off

        level_within : own.priority ≤ p
        level_within = by (later_if i own (not_false (stands_before i own) behind_it))
          where
            by : IsLater i own → own.priority ≤ p
            by (inl lower) = omega (arith, lower)
            by (inr same) = let equal = same.0 in omega (arith, equal)

        ceiling_below : system_ceiling app s.jobs < own.priority
        ceiling_below = above app accepted form (counted.Messages i.task) i declared hold hold_is few s paid now irq
            depth best_is x at

        few_out : out app accepted form i declared hold hold_is few s
            ≤ others_at app accepted form i declared hold hold_is few own.priority
        few_out =
            let within = level_within in
            let below = small app accepted form i declared hold hold_is few dispatches in
            out_below app accepted form i hold hold_is few s v well hands stands nothing dispatches declared counted_out
            own.priority (omega (arith, within, below))
            (all_fall app accepted form i hold hold_is few own.priority s.jobs v.jobs well.stack ceiling_below)

        -- with all in reserve that there is room for
        for_take : (most : ℕ) → RoomedIn s hands paid most
            → (roomed : RoomedIn s hands paid hold)
            × (roomed.reserve ≡ room_at app (counted.Messages i.task) i hold own.priority)
        for_take most roomed = (
          record {
            reserve = room_at app (counted.Messages i.task) i hold own.priority;
            all = roomed.all;
            owes = owes_any app accepted form i declared hold hold_is few roomed.reserve
                (room_at app (counted.Messages i.task) i hold own.priority) roomed.all s.jobs hands below roomed.owes;
            have = room_any app accepted form i declared hold hold_is few roomed.reserve
                (room_at app (counted.Messages i.task) i hold own.priority) s.jobs hands below roomed.have;
            owing =
                let none = none_ask app (counted.Messages i.task) i (By app accepted form i declared hold hold_is few)
                (room_at app (counted.Messages i.task) i hold) roomed.reserve roomed.all s.jobs nothing.jobs
                roomed.owes.0 in
                let clear = nothing_loads app accepted form (counted.Messages i.task) i declared hold hold_is few s
                nothing paid in
                let places = few_out in
                let others = few.others_within own.priority in
                omega (arith, none, clear, places, others);
          },
          refl,
        )
          where
            below : system_ceiling app s.jobs < p
            below = let first = ceiling_below in let within = level_within in omega (arith, first, within)

        taken_role : ¬ IsRoleAt app i (Serving irq)
        taken_role = not_at app accepted form (counted.Messages i.task) i declared hold hold_is few irq x at behind_it

      pub room_quiet : (most : ℕ) → hold + 1 < MOST_WORK → RoomedIn s hands paid most
          → StepRoom hold
      room_quiet most fits_in roomed = by case
        where
          by : StepCase app accepted s v shown → StepRoom hold
          by (Takes irq is x at depth shown_is) =
              behind hold full.0
              (subst (λ (w : Option What). Both full.0.reserve full.0.all w (after app s (Stepped w))
              (0 + place_taken (By app accepted form i declared hold hold_is few) w)) (sym shown_is)
              (subst (λ o. Both full.0.reserve full.0.all (Some (what.Take irq depth))
              (state_after_start app (record s { pending = slice_set s.pending irq false }) irq o) 0) (sym at) (
                lowers,
                (
                  LeavesEnough (taken_role irq depth is x at) enough,
                  room_less app accepted form i declared hold
                      hold_is few full.0.reserve lowers.reserve_then s.jobs hands lowers.less full.0.have,
                ),
              )))
            where
              full : (r : RoomedIn s hands paid hold)
                  × (r.reserve ≡ room_at app (counted.Messages i.task) i hold (own irq depth is x at).priority)
              full = for_take irq depth is x at most roomed

              lowers : LowersIn s (state_after_start app (record s { pending = slice_set s.pending irq false }) irq
                  (Some x)) hands (Stepped (Some (what.Take irq depth))) paid then_paid full.0.reserve full.0.all 0
              lowers =
                  subst (λ hs. LowersIn s (state_after_start app (record s {
                    pending = slice_set s.pending irq false;
                  }) irq (Some x)) hs (Stepped (Some (what.Take irq depth))) paid then_paid full.0.reserve full.0.all 0)
                  full.0.owes.1
                  (take_quiet app accepted form (counted.Messages i.task) i declared hold hold_is few s paid now irq
                  depth is x at (take_same app accepted s well.queued irq x at) then_paid
                  (subst (λ w. Pays app accepted form (counted.Messages i.task) i declared hold hold_is few (Stepped w)
                  paid then_paid) shown_is pays) full.0.reserve full.0.all full.0.owes.0
                  (let same = full.1 in omega (arith, same)) (off irq depth is x at))

              enough : lowers.reserve_then + 0 + others_at app accepted form i declared hold hold_is few x.priority
                  ≤ hold
              enough =
                  let less = lowers.less in
                  let same = full.1 in
                  let level = ap (others_at app accepted form i declared hold hold_is few)
                  (own_row irq depth is x at).priority in
                  let others = few.others_within (own irq depth is x at).priority in
                  omega (arith, less, same, level, others)
          by (Goes given u step has no_take passed) = behind hold filled.roomed (both.0, leaves)
            where
              filled : Filled app accepted form i declared hold hold_is few s hands paid step.job
              filled = fill app accepted form i declared hold hold_is few dispatches s v well hands stands nothing
                  counted_out step.job step.others step.jobs_are paid most roomed

              own_owes : OwesWith app accepted form i declared hold hold_is few filled.roomed.reserve filled.roomed.all
                  hands (step.job ∷ step.others)
              own_owes = subst (OwesWith app accepted form i declared hold hold_is few filled.roomed.reserve
                  filled.roomed.all hands) step.jobs_are filled.roomed.owes

              passes : Passed app s step.job step.others shown t
              passes = passed (sets_none app (counted.Messages i.task) i (By app accepted form i declared hold hold_is
                  few) (room_at app (counted.Messages i.task) i hold) filled.roomed.reserve own_owes.0.0 step.job
                  own_owes.0.3)

              both : JobLowersBy step.job step.others filled.roomed.reserve filled.roomed.all hands
              both = subst (JobLowersBy step.job step.others filled.roomed.reserve filled.roomed.all)
                  filled.roomed.owes.1
                  (job_quiet app accepted form (counted.Messages i.task) i declared hold hold_is few s v given shown t u
                  step passes filled.roomed.reserve filled.roomed.all paid then_paid now (λ q. no_take (turn app q))
                  pays (let owing = filled.roomed.owing in omega (arith, owing, fits_in)) filled.roomed.owes.0 has
                  (let same = ap (head_in (By app accepted form i declared hold hold_is few)) filled.roomed.owes.1 in
                  let full = filled.full in omega (arith, same, full)))

              leaves : HaveIn both.0.reserve_then t.jobs (hands_behind hands (Stepped shown))
              leaves = room_on step.job step.others filled.roomed.reserve both.0.reserve_then hands both.0.less
                  (subst (λ js. HaveIn filled.roomed.reserve js hands) step.jobs_are filled.roomed.have) both.1
                  (λ none. filled.leaves) passes.passes

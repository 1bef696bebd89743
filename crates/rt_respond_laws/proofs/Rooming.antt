-- The places of a dispatcher's task in a stretch of a run: what its messages still ask for, what is in reserve for
-- them, and the places that are out, are together no more than the stretch begins with and what was requested asks for.
use Rattle.std.proofs.Common.{◌≡◌, ℕ, ◌+◌, ◌-◌, ◌≤◌, ◌<◌, inl, inr, true, List, [], ◌∷◌, map, Some, refl, ap, subst}
use Rattle.std.proofs.Common.{◌++◌, ◌⊎◌, length, Option, IsSome}
use Rattle.std.proofs.Common.{◌∙◌, sym, arith, ◌==◌, Bool, false, if◌then◌else◌, None}
use Rattle.std.specs.List.{AllByRecursion}
use Rattle.std.proofs.lemmas.Bool.{cases_lt}
use Rattle.rt_ids.specs.Choice.{IsIn}
use Rattle.rt_ids.specs.declared.ids.Section.TheVariants as section
use Rattle.rt_actions.specs.Location.{Guarded}
use Rattle.rt_actions.specs.Content.{Values, number}
use Rattle.rt_trace.specs.Label.{Label, Arrived, Ticked, Rang, Stepped}
use Rattle.rt_trace.specs.declared.item.What.{What}
use Rattle.rt_trace.specs.declared.item.What.TheVariants as what
use Rattle.rt_ids.specs.declared.ids.BodyId.TheVariants as body
use Rattle.rt_app.specs.Tree.{Body}
use Rattle.rt_laws.specs.Acting.{idle_job}
use Rattle.rt_laws.specs.Giving.{return_item, item_of}
use Rattle.rt_laws.specs.MessagesByItems.{TaskCounts, task_counts, is_ok}
use Rattle.rt_laws.proofs.ItemCounts.{one_if, Whereabouts, whereabouts, Agrees, counts_push}
use Rattle.rt_laws.proofs.Placed.{Placed, told_behind}
use Rattle.rt_respond_laws.proofs.Passing.{Passes, Silently, Acts, Anew, Returned}
use Rattle.rt_app.specs.Tree.{App}
use Rattle.rt_app.specs.Accepted.{IsAccepted}
use Rattle.rt_app.specs.declared.costs.TheConstants.{PRIORITIES}
use Rattle.rt_laws.specs.Places.{Hand, hands_behind, in_transit, arming_count, ready_of}
use Rattle.rt_laws.specs.Observer.{Seen, Observer}
use Rattle.rt_laws.specs.Preemption.{system_ceiling, greatest_ceiling}
use Rattle.rt_laws.specs.State.{Role, Init, Idle, Waiting, Serving, Job, State}
use Rattle.rt_laws.proofs.Hands.{InTransit, Bare, Forwards, hand_of, transit_then}
use Rattle.rt_laws.proofs.Well.{IsAbove, StackWell, StateWell}
use Rattle.rt_respond.specs.Form.{is_of_form}
use Rattle.rt_respond.specs.Handlers.{handlers}
use Rattle.rt_respond.specs.Blocking.{blocking, others_in_transit}
use Rattle.rt_respond.specs.declared.handler.Quantity.TheVariants as counted
use Rattle.rt_respond.specs.declared.handler.Handler.{Handler}
use Rattle.rt_respond_laws.specs.Moments.{IsRoleAt, NothingIsLeft}
use Rattle.rt_respond_laws.proofs.Weights.{room_at, Weighs}
use Rattle.rt_respond_laws.proofs.Sending.{Posting, in_hand, head_in, in_hand_is, place_taken}
use Rattle.rt_respond_laws.proofs.Spawners.{taking}
use Rattle.rt_respond_laws.proofs.Handled.{of_level}
use Rattle.rt_respond_laws.proofs.Levels.{level_small}
use Rattle.rt_respond_laws.proofs.Weighing.{room_for}
use Rattle.rt_respond_laws.proofs.Claims.{Claim, Own, Begin, Turn, Equal, Under, OweWith, IsTight, owe_more, owe_any}
use Rattle.rt_respond_laws.proofs.Claims.{hands_more, hands_any}
use Rattle.rt_respond_laws.proofs.Lowering.{asked_by, load, positive}
use Rattle.rt_respond_laws.proofs.Standing.{Spot, IsThere, MayTake, TakesNone, Spots, Stands, told_acts}
use Rattle.rt_respond_laws.proofs.Transits.{out_within}
use Rattle.rt_respond_laws.proofs.Still.{none_ask, nothing_loads}

module _ (app : App) (accepted : IsAccepted app) (form : is_of_form app ≡ true) (i : Handler)
    (declared : IsIn (handlers app) i) (hold : ℕ) (hold_is : blocking app (counted.Messages i.task) i ≡ Some hold)
    (few : Weighs app (counted.Messages i.task) i hold) where
  abbrev p : ℕ
  p = i.priority

  abbrev pub By : Posting
  By = asked_by app accepted form (counted.Messages i.task) i declared hold hold_is few

  abbrev room : ℕ → ℕ
  room = room_at app (counted.Messages i.task) i hold

  abbrev pub others_at : ℕ → ℕ
  others_at = others_in_transit app (counted.Messages i.task) i

  abbrev pub OwesWith : ℕ → ℕ → List Hand → List Job → Type 0
  OwesWith = OweWith app (counted.Messages i.task) i By room

  -- What is in reserve, beside what a job has in its hands: where the job is not at the dispatcher, and it is not below
  -- it with no section open that holds the dispatcher off, there is room for the places in transit elsewhere.
  pub data LeavesRoom (reserve : ℕ) (hand : Hand) (job : Job) : Type 0 where
    JobThere : IsRoleAt app i job.role → LeavesRoom reserve hand job
    JobClosed : ¬ IsRoleAt app i job.role → job.priority < p → greatest_ceiling app job.sections < p
        → LeavesRoom reserve hand job
    LeavesEnough : ¬ IsRoleAt app i job.role → reserve + in_hand By hand + others_at job.priority ≤ hold
        → LeavesRoom reserve hand job

  abbrev pub HaveRoom : ℕ → List Job → List Hand → Type 0
  HaveRoom reserve [] hands = Unit {0}
  HaveRoom reserve (job ∷ js) [] = ⊥
  HaveRoom reserve (job ∷ js) (hand ∷ hands) = LeavesRoom reserve hand job × HaveRoom reserve js hands

  -- with less in reserve
  pub room_less : (reserve less : ℕ) (js : List Job) (hands : List Hand) → less ≤ reserve → HaveRoom reserve js hands
      → HaveRoom less js hands
  room_less reserve less [] hands fewer have = tt
  room_less reserve less (job ∷ js) [] fewer have = absurd have
  room_less reserve less (job ∷ js) (hand ∷ hands) fewer have =
      (by have.0, room_less reserve less js hands fewer have.1)
    where
      by : LeavesRoom reserve hand job → LeavesRoom less hand job
      by (JobThere there) = JobThere there
      by (JobClosed off lower closed) = JobClosed off lower closed
      by (LeavesEnough off within) = LeavesEnough off (omega (arith, within, fewer))

  -- where the system ceiling is below the dispatcher's priority any number may be in reserve
  pub room_any : (reserve other : ℕ) (js : List Job) (hands : List Hand) → system_ceiling app js < p
      → HaveRoom reserve js hands → HaveRoom other js hands
  room_any reserve other [] hands below have = tt
  room_any reserve other (job ∷ js) [] below have = absurd have
  room_any reserve other (job ∷ js) (hand ∷ hands) below have =
      (by have.0, room_any reserve other js hands (omega (arith, below)) have.1)
    where
      by : LeavesRoom reserve hand job → LeavesRoom other hand job
      by (JobThere there) = JobThere there
      by (JobClosed off lower closed) = JobClosed off lower closed
      by (LeavesEnough off within) = JobClosed off (omega (arith, below)) (omega (arith, below))

  -- with these hands
  owes_more : (reserve more all : ℕ) (js : List Job) (hands : List Hand) → reserve ≤ more
      → OwesWith reserve all hands js → OwesWith more all hands js
  owes_more reserve more all js hands less owes = (
    owe_more app (counted.Messages i.task) i By room reserve more all js less owes.0,
    ap (map hand_of) (hands_more app (counted.Messages i.task) i By room reserve more all js less owes.0) ∙ owes.1,
  )

  pub owes_any : (reserve other all : ℕ) (js : List Job) (hands : List Hand) → system_ceiling app js < p
      → OwesWith reserve all hands js → OwesWith other all hands js
  owes_any reserve other all js hands below owes = (
    owe_any app (counted.Messages i.task) i By room reserve other all js below owes.0,
    ap (map hand_of) (hands_any app (counted.Messages i.task) i By room reserve other all js below owes.0) ∙ owes.1,
  )

  -- all that there is room for is in reserve anew
  pub record Refilled (all : ℕ) (hands : List Hand) (job : Job) (others : List Job) : Type 0 where
    pub reserve : ℕ
    pub is : reserve ≡ hold - others_at job.priority - head_in By hands
    pub owes : OwesWith reserve all hands (job ∷ others)
    pub have : HaveRoom reserve (job ∷ others) hands

  pub refill : (reserve all : ℕ) (hands : List Hand) (job : Job) (others : List Job)
      → OwesWith reserve all hands (job ∷ others) → HaveRoom reserve (job ∷ others) hands
      → ¬ IsRoleAt app i job.role → system_ceiling app others < p → others_at job.priority + head_in By hands ≤ hold
      → Refilled all hands job others
  refill reserve all [] job others owes have off below enough = absurd have
  refill reserve all (hand ∷ hands) job others owes have off below enough =
      elim (cases_lt most reserve) [
        | inl less ↦ fewer less have.0
        | inr more ↦ record {
          reserve = most;
          is = refl;
          owes = owes_more reserve most all (job ∷ others) (hand ∷ hands) more owes;
          have = (leaves, deeper);
        }
      ]
    where
      most : ℕ
      most = hold - others_at job.priority - in_hand By hand

      leaves : LeavesRoom most hand job
      leaves = LeavesEnough off (omega (arith, enough))

      deeper : HaveRoom most others hands
      deeper = room_any reserve most others hands below have.1

      fewer : most < reserve → LeavesRoom reserve hand job → Refilled all (hand ∷ hands) job others
      fewer less (JobThere there) = absurd (off there)
      fewer less (JobClosed not_there lower closed) = record {
        reserve = most;
        is = refl;
        owes = owes_any reserve most all (job ∷ others) (hand ∷ hands) (omega (arith, lower, closed, below)) owes;
        have = (leaves, deeper);
      }
      fewer less (LeavesEnough not_there within) = absurd (omega (arith, less, within, enough))

  -- with no other hands than these a job has one place at most
  one_held : (hand : Hand) → in_hand By hand ≤ 1
  one_held None = omega arith
  one_held (Some t) = by (t == i.task)
    where
      by : (b : Bool) → (if b then 1 else 0) ≤ 1
      by true = omega arith
      by false = omega arith

  same_head : (hands : List Hand) → head_in (taking i.task) hands ≡ head_in By hands
  same_head [] = refl
  same_head (None ∷ hands) = refl
  same_head (Some t ∷ hands) = refl

  -- a job that is not at the dispatcher has no higher priority
  not_over : (reserve own : ℕ) (hand : InTransit) (job : Job) → ¬ IsRoleAt app i job.role
      → Claim app (counted.Messages i.task) i By room reserve own hand job → job.priority ≤ p
  not_over reserve own hand job off (Own irq role mine high rest most is) = absurd (off mine)
  not_over reserve own hand job off (Begin irq role mine high q at waits is) = absurd (off mine)
  not_over reserve own hand job off (Turn irq role mine high q at turns is) = absurd (off mine)
  not_over reserve own hand job off (Equal none same rest most within is) = omega (arith, same)
  not_over reserve own hand job off (Under none lower mode holds stands is) = omega (arith, lower)

  pub under_it : (role : Role) (q : ℕ) (others : List Job) → IsAbove app role q others → q ≤ p
      → system_ceiling app others < p
  under_it role q others above within = by role above
    where
      bottom : others ≡ [] → system_ceiling app others < p
      bottom none =
          subst (λ js. system_ceiling app js < p) (sym none)
          (positive app accepted form (counted.Messages i.task) i declared hold hold_is few)

      by : (role : Role) → IsAbove app role q others → system_ceiling app others < p
      by Init above = bottom above
      by Idle above = bottom above.0
      by Waiting above = bottom above.0
      by (Serving irq) above = let less = above.1 in omega (arith, less, within)

  below_first : (job : Job) (others : List Job) (seens : List Seen) → StackWell app (job ∷ others) seens
      → job.priority ≤ p → system_ceiling app others < p
  below_first job others [] well within = absurd well
  below_first job others (seen ∷ seens) well within = under_it job.role job.priority others well.1 within

  -- the places that are out
  abbrev pub out : State → ℕ
  out s = number (s.values (Guarded (section.Free i.task)))

  abbrev pub load_now : State → (ℕ → ℕ) → ℕ
  load_now = load app accepted form (counted.Messages i.task) i declared hold hold_is few

  -- what is asked for, in reserve and out, is within this
  pub record Roomed (s : State) (hands : List Hand) (paid : ℕ → ℕ) (most : ℕ) : Type 0 where
    pub reserve : ℕ
    pub all : ℕ
    pub owes : OwesWith reserve all hands s.jobs
    pub have : HaveRoom reserve s.jobs hands
    pub owing : all + load_now s paid + reserve + out s ≤ most

  -- it begins anew, with all in reserve for the running job that there is room for
  pub record Filled (s : State) (hands : List Hand) (paid : ℕ → ℕ) (job : Job) : Type 0 where
    pub roomed : Roomed s hands paid hold
    pub full : room job.priority ≤ roomed.reserve + head_in By hands
    pub leaves : roomed.reserve + head_in By hands + others_at job.priority ≤ hold

  module _ (dispatches : i.is_dispatcher ≡ true) where
    pub small : p < PRIORITIES
    small = level_small app p (of_level app accepted i declared dispatches).known

    -- a job that is not at the dispatcher has a place in its hands where there is room for it
    spot_room : (job : Job) (hand : InTransit) → ¬ IsRoleAt app i job.role → job.priority ≤ p
        → Spot app accepted form i hold hold_is few job hand
        → others_at job.priority + in_hand By (hand_of hand) ≤ hold
    spot_room job hand off within (IsThere there) = absurd (off there)
    spot_room job hand off within (MayTake may) =
        let below = small in
        let one = one_held (hand_of hand) in
        let some = room_for app accepted form i declared dispatches hold hold_is few.below job.priority
        (omega (arith, within, below)) may in
        omega (arith, one, some)
    spot_room job hand off within (TakesNone most nothing) =
        let same = in_hand_is (taking i.task) hand in
        let alike = same_head (hand_of hand ∷ []) in
        let others = few.others_within job.priority in omega (arith, same, alike, nothing, others)

    module _ (s : State) (v : Observer) (well : StateWell app s v) (hands : List Hand)
        (stands : Stands app accepted form i hold hold_is few s hands) (nothing : NothingIsLeft app i s)
        (counted_out : out s ≡ in_transit i.task hands + arming_count i.task s.values + ready_of app i.task s.values)
        (job : Job) (others : List Job) (jobs_are : s.jobs ≡ job ∷ others) where
      not_there : ¬ IsRoleAt app i job.role
      not_there = (subst (AllByRecursion (λ j. ¬ IsRoleAt app i j.role)) jobs_are nothing.jobs).0

      -- the running job's place has room
      head_room : job.priority ≤ p → others_at job.priority + head_in By hands ≤ hold
      head_room within =
          by stands.transits stands.are (subst (λ js. Spots app accepted form i hold hold_is few js stands.transits)
          jobs_are stands.spots)
        where
          by : (transits : List InTransit) → map hand_of transits ≡ hands
              → Spots app accepted form i hold hold_is few (job ∷ others) transits
              → others_at job.priority + head_in By hands ≤ hold
          by [] are spots = absurd spots
          by (hand ∷ rest) are spots =
              let one = spot_room job hand not_there within spots.1 in
              let same = ap (head_in By) are in omega (arith, one, same)

      pub fill : (paid : ℕ → ℕ) (most : ℕ) → Roomed s hands paid most → Filled s hands paid job
      fill paid most now = record {
        roomed = record {
          reserve = again.reserve;
          all = now.all;
          owes = subst (OwesWith again.reserve now.all hands) (sym jobs_are) again.owes;
          have = subst (λ js. HaveRoom again.reserve js hands) (sym jobs_are) again.have;
          owing = omega (arith, none, clear, is, enough, few_out, alike);
        };
        full = omega (arith, is);
        leaves = omega (arith, is, enough);
      }
        where
          own : OwesWith now.reserve now.all hands (job ∷ others)
          own = subst (OwesWith now.reserve now.all hands) jobs_are now.owes

          within : job.priority ≤ p
          within = not_over now.reserve own.0.0 own.0.3.0 job not_there own.0.3.2

          enough : others_at job.priority + head_in By hands ≤ hold
          enough = head_room within

          again : Refilled now.all hands job others
          again =
              refill now.reserve now.all hands job others own (subst (λ js. HaveRoom now.reserve js hands) jobs_are
              now.have) not_there
              (below_first job others v.jobs (subst (λ js. StackWell app js v.jobs) jobs_are well.stack) within) enough

          is : again.reserve ≡ hold - others_at job.priority - head_in By hands
          is = again.is

          none : now.all ≡ 0
          none =
              none_ask app (counted.Messages i.task) i By room now.reserve now.all s.jobs nothing.jobs now.owes.0

          clear : load_now s paid ≡ 0
          clear = nothing_loads app accepted form (counted.Messages i.task) i declared hold hold_is few s nothing paid

          alike : head_in (taking i.task) hands ≡ head_in By hands
          alike = same_head hands

          few_out : out s ≤ others_at job.priority + head_in (taking i.task) hands
          few_out =
              let below = small in
              out_within app accepted form i hold hold_is few s v well hands stands nothing dispatches declared
              counted_out job others jobs_are (omega (arith, within, below))

  -- a label takes so many places
  abbrev pub taken_at : Label → ℕ
  taken_at (Stepped shown) = place_taken By shown
  taken_at label = 0

  ok_is : (w : What) → one_if (is_ok i.task w) ≤ place_taken By (Some w)
  ok_is (what.Placed n) = by (n == i.task)
    where
      by : (b : Bool) → one_if b ≤ (if b then 1 else 0)
      by true = omega arith
      by false = omega arith
  ok_is w = omega arith

  item_out : (ws : List What) (w : What) (before behind : Whereabouts) → Agrees (task_counts i.task ws) before
      → Agrees (task_counts i.task (ws ++ w ∷ [])) behind → behind.out ≤ before.out + place_taken By (Some w)
  item_out ws w before behind old now =
      let ok = ap (λ (c : TaskCounts). c.ok) (counts_push i.task ws w) in
      let free = ap (λ (c : TaskCounts). c.free) (counts_push i.task ws w) in
      let one = ok_is w in
      let first = old.placed in
      let behind_it = now.placed in
      omega (arith, ok, free, one, first, behind_it)

  -- no more places are out behind it
  pub out_on : (ws : List What) (hands later : List Hand) (s t : State) (label : Label) → Placed app ws hands s
      → Placed app (told_behind ws label) later t → out t ≤ out s + taken_at label
  out_on ws hands later s t (Arrived irq) old now =
      item_out ws (what.Pend irq) (whereabouts app i.task old.transits s.values)
      (whereabouts app i.task now.transits t.values) (old.kept.counted i.task) (now.kept.counted i.task)
  out_on ws hands later s t Ticked old now =
      item_out ws what.Tick (whereabouts app i.task old.transits s.values)
      (whereabouts app i.task now.transits t.values) (old.kept.counted i.task) (now.kept.counted i.task)
  out_on ws hands later s t Rang old now =
      item_out ws what.Alarm (whereabouts app i.task old.transits s.values)
      (whereabouts app i.task now.transits t.values) (old.kept.counted i.task) (now.kept.counted i.task)
  out_on ws hands later s t (Stepped None) old now =
      let first = (old.kept.counted i.task).placed in
      let behind_it = (now.kept.counted i.task).placed in omega (arith, first, behind_it)
  out_on ws hands later s t (Stepped (Some w)) old now =
      item_out ws w (whereabouts app i.task old.transits s.values)
      (whereabouts app i.task now.transits t.values) (old.kept.counted i.task) (now.kept.counted i.task)

  in_transit_of : (hand : Hand) → (x : InTransit) × (hand_of x ≡ hand)
  in_transit_of None = (Bare, refl)
  in_transit_of (Some t) = (Forwards t, refl)

  -- the thread as it begins anew is closed
  pub thread_closed : (later : ℕ) (hand : Hand) (vs : Values) (o : Option Body)
      → LeavesRoom later hand (idle_job app vs o)
  thread_closed later hand vs None =
      JobClosed (λ none. none) (positive app accepted form (counted.Messages i.task) i declared hold hold_is few)
      (positive app accepted form (counted.Messages i.task) i declared hold hold_is few)
  thread_closed later hand vs (Some b) =
      JobClosed (λ none. none) (positive app accepted form (counted.Messages i.task) i declared hold hold_is few)
      (positive app accepted form (counted.Messages i.task) i declared hold hold_is few)

  -- a step of the running job leaves the room that there is
  module _ (s t : State) (shown : Option What) (job : Job) (others : List Job) (reserve later : ℕ) (hand : Hand)
      (hands : List Hand) (less : later ≤ reserve) (have : HaveRoom reserve (job ∷ others) (hand ∷ hands))
      (tight : ¬ IsRoleAt app i job.role → IsTight By reserve later (hand ∷ hands) shown others t)
      (enough : ¬ IsRoleAt app i job.role → reserve + in_hand By hand + others_at job.priority ≤ hold) where
    abbrev HandsThen : List Hand
    HandsThen = hands_behind (hand ∷ hands) (Stepped shown)

    deeper : HaveRoom later others hands
    deeper = room_less reserve later others hands less have.1

    same_job : (j : Job) (held : Hand) → t.jobs ≡ j ∷ others → j.role ≡ job.role → j.priority ≡ job.priority
        → held ∷ hands ≡ HandsThen → HaveRoom later t.jobs HandsThen
    same_job j held js role priority is =
        subst (λ xs. HaveRoom later xs HandsThen) (sym js)
        (subst (HaveRoom later (j ∷ others)) is (by have.0, deeper))
      where
        leaves : ¬ IsRoleAt app i job.role → LeavesRoom later held j
        leaves off = elim (tight off) [
          | inl gone ↦ (let long = ap length (sym gone ∙ js) in absurd (omega (arith, long)))
          | inr fewer ↦
              let first = ap (head_in By) is in
              let level = ap others_at priority in
              let room = enough off in
              LeavesEnough (λ there. off (subst (IsRoleAt app i) role there))
              (omega (arith, fewer, first, level, room))
        ]

        by : LeavesRoom reserve hand job → LeavesRoom later held j
        by (JobThere there) = JobThere (subst (IsRoleAt app i) (sym role) there)
        by (JobClosed off lower closed) = leaves off
        by (LeavesEnough off within) = leaves off

    told_ends : (shown ≡ Some (what.End body.Init)) ⊎ (shown ≡ Some (what.End body.Idle))
        → hand ∷ hands ≡ HandsThen
    told_ends (inl is) = sym (ap (λ w. hands_behind (hand ∷ hands) (Stepped w)) is)
    told_ends (inr is) = sym (ap (λ w. hands_behind (hand ∷ hands) (Stepped w)) is)

    told_returns : (role : Role) → shown ≡ return_item role → IsSome (return_item role) → hands ≡ HandsThen
    told_returns Init is some = cc
    told_returns Idle is some = cc
    told_returns Waiting is some = cc
    told_returns (Serving irq) is some = sym (ap (λ w. hands_behind (hand ∷ hands) (Stepped w)) is)

    pub have_on : Passes app s job others shown t → HaveRoom later t.jobs HandsThen
    have_on (Silently js ps silent values) =
        same_job _ hand js refl refl (sym (ap (λ w. hands_behind (hand ∷ hands) (Stepped w)) silent))
    have_on (Acts action made next rest_is a vs j js role priority left rest sections lefts pending no_end acted) =
        let x = in_transit_of hand in
        same_job j (hand_of (transit_then x.0 action)) js role priority
        (told_acts app accepted form i hold hold_is few s job.role x.0 hands action acted.goes_on
        ∙ ap (λ h. hands_behind (h ∷ hands) (Stepped (item_of s job.role action))) x.1
        ∙ ap (λ w. hands_behind (hand ∷ hands) (Stepped w)) acted.shows)
    have_on (Anew vs js ps ended b next ready) =
        subst (λ xs. HaveRoom later xs HandsThen) (sym js)
        (subst (HaveRoom later (idle_job app vs app.idle ∷ others)) (told_ends ended)
        (thread_closed later hand vs app.idle, deeper))
    have_on (Returned js ps shows_it returns next values) =
        subst (λ xs. HaveRoom later xs HandsThen) (sym js)
        (subst (HaveRoom later others) (told_returns job.role shows_it returns) deeper)

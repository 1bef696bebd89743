-- The places of a dispatcher's task that are in the hands of jobs, where none of them is at the dispatcher: beside that
-- of the running job no more than there are other priorities at which bodies below spawn messages of the task.
use Rattle.std.proofs.Common.{◌≡◌, ℕ, ◌+◌, ◌≤◌, ◌<◌, ◌==◌, Bool, true, false, if◌then◌else◌, count_by}
use Rattle.std.proofs.Common.{List, [], ◌∷◌, length, map, Some, refl, ap, subst, ◌∙◌, arith}
use Rattle.std.specs.List.{AllByRecursion}
use Rattle.std.proofs.lemmas.List.Sums.{sum_by-append}
use Rattle.rt_ids.specs.Choice.{IsIn}
use Rattle.rt_ids.specs.Lists.{is_some_and}
use Rattle.rt_ids.specs.declared.ids.Section.TheVariants as section
use Rattle.rt_actions.specs.Content.{Message, Armed, number, messages}
use Rattle.rt_actions.specs.Location.{Guarded}
use Rattle.rt_app.specs.Bodies.{task_priority}
use Rattle.rt_app.specs.declared.costs.TheConstants.{PRIORITIES}
use Rattle.rt_app.specs.Tree.{App}
use Rattle.rt_app.specs.Accepted.{IsAccepted}
use Rattle.rt_laws.specs.Observer.{Seen, Observer}
use Rattle.rt_laws.specs.Preemption.{system_ceiling}
use Rattle.rt_laws.specs.Places.{Hand, in_transit, arming_count, ready_of}
use Rattle.rt_laws.specs.State.{Role, Init, Idle, Waiting, Serving, Job, State}
use Rattle.rt_laws.proofs.Hands.{InTransit, Bare, Forwards, GivesBack, hand_of}
use Rattle.rt_laws.proofs.ItemCounts.{one_if}
use Rattle.rt_laws.proofs.Well.{IsAbove, StackWell, StateWell}
use Rattle.rt_respond.specs.Form.{is_of_form}
use Rattle.rt_respond.specs.Handlers.{handlers}
use Rattle.rt_respond.specs.Blocking.{spawns_below, others_in_transit, blocking}
use Rattle.rt_respond.specs.declared.handler.Quantity.TheVariants as counted
use Rattle.rt_respond.specs.declared.handler.Handler.{Handler}
use Rattle.rt_respond.proofs.Order.{at_itself}
use Rattle.rt_respond_laws.specs.Moments.{IsRoleAt, NothingIsLeft}
use Rattle.rt_respond_laws.proofs.Weights.{Weighs}
use Rattle.rt_respond_laws.proofs.Sending.{Posting, place_of, in_hand, head_in}
use Rattle.rt_respond_laws.proofs.Spawners.{taking}
use Rattle.rt_respond_laws.proofs.Falling.{Falls, PassEach, falls_within}
use Rattle.rt_respond_laws.proofs.Handled.{handler_of_task}
use Rattle.rt_respond_laws.proofs.Tasks.{task_priority_is}
use Rattle.rt_respond_laws.proofs.Standing.{Spot, IsThere, MayTake, TakesNone, Spots, Stands}
use Rattle.rt_respond_laws.proofs.Unarmed.{none_armed}

-- each job has a lower priority than the one before it, and the first a lower one than this
abbrev pub AllFall : ℕ → List Job → Type 0
AllFall n [] = Unit {0}
AllFall n (job ∷ js) = (job.priority < n) × AllFall job.priority js

-- so do those below a job of a stack
pub stack_falls : (app : App) (job : Job) (others : List Job) (seens : List Seen) → StackWell app (job ∷ others) seens
    → AllFall job.priority others
stack_falls app job others [] well = absurd well
stack_falls app job [] (seen ∷ seens) well = tt
stack_falls app job (next ∷ more) (seen ∷ seens) well =
    (by job.role job.priority well.1, stack_falls app next more seens well.2)
  where
    by : (role : Role) (q : ℕ) → IsAbove app role q (next ∷ more) → next.priority < q
    by Init q above = cc
    by Idle q above = (let none = above.0 in cc)
    by Waiting q above = (let none = above.0 in cc)
    by (Serving irq) q above = let under = above.1 in omega (arith, under)

falls_more : (n m : ℕ) (ps : List ℕ) → n ≤ m → Falls n ps → Falls m ps
falls_more n m [] less falls = tt
falls_more n m (p ∷ ps) less falls = (let first = falls.0 in omega (arith, first, less), falls.1)

module _ (app : App) (accepted : IsAccepted app) (form : is_of_form app ≡ true) (i : Handler)
    (hold : ℕ) (hold_is : blocking app (counted.Messages i.task) i ≡ Some hold)
    (few : Weighs app (counted.Messages i.task) i hold) where
  abbrev takes : Posting
  takes = taking i.task

  abbrev counts_at : ℕ → Bool
  counts_at = spawns_below app i i.task

  abbrev SpotsOf : List Job → List InTransit → Type 0
  SpotsOf = Spots app accepted form i hold hold_is few

  abbrev pub NoneThere : List Job → Type 0
  NoneThere js = AllByRecursion (λ job. ¬ IsRoleAt app i job.role) js

  abbrev is_own : Hand → Bool
  is_own = is_some_and (λ u. u == i.task)

  -- the priorities of the jobs with a place of the task
  abbrev holders : List Job → List InTransit → List ℕ
  holders [] hands = []
  holders (job ∷ js) [] = []
  holders (job ∷ js) (hand ∷ hands) =
      if is_own (hand_of hand) then job.priority ∷ holders js hands else holders js hands

  holders_fall : (n : ℕ) (js : List Job) (hands : List InTransit) → AllFall n js → Falls n (holders js hands)
  holders_fall n [] hands fall = tt
  holders_fall n (job ∷ js) [] fall = tt
  holders_fall n (job ∷ js) (hand ∷ hands) fall =
      by (is_own (hand_of hand)) (holders_fall job.priority js hands fall.1)
    where
      by : (b : Bool) → Falls job.priority (holders js hands)
          → Falls n (if b then job.priority ∷ holders js hands else holders js hands)
      by true rest = (fall.0, rest)
      by false rest =
          falls_more job.priority n (holders js hands) (let first = fall.0 in omega (arith, first)) rest

  own_place : (hand : InTransit) → is_own (hand_of hand) ≡ true → place_of takes hand ≡ 1
  own_place Bare is = cc
  own_place (Forwards t) is = ap (λ b. if b then 1 else 0) is
  own_place (GivesBack t) is = ap (λ b. if b then 1 else 0) is

  holders_pass : (own n : ℕ) (js : List Job) (hands : List InTransit) → n ≤ own → AllFall n js → SpotsOf js hands
      → NoneThere js → PassEach counts_at own (holders js hands)
  holders_pass own n [] hands less fall spots none = tt
  holders_pass own n (job ∷ js) [] less fall spots none = tt
  holders_pass own n (job ∷ js) (hand ∷ hands) less fall spots none =
      by (is_own (hand_of hand)) refl
      (holders_pass own job.priority js hands (let first = fall.0 in omega (arith, first, less)) fall.1 spots.2 none.1)
    where
      counts : Spot app accepted form i hold hold_is few job hand → is_own (hand_of hand) ≡ true
          → counts_at job.priority ≡ true
      counts (IsThere there) is = absurd (none.0 there)
      counts (MayTake may) is = may
      counts (TakesNone most nothing) is = let one = own_place hand is in absurd (omega (arith, one, nothing))

      by : (b : Bool) → is_own (hand_of hand) ≡ b → PassEach counts_at own (holders js hands)
          → PassEach counts_at own (if b then job.priority ∷ holders js hands else holders js hands)
      by true is rest = ((counts spots.1 is, λ same. let first = fall.0 in omega (arith, first, less, same)), rest)
      by false is rest = rest

  pub first_counts : (hand : Hand) (hands : List Hand)
      → in_transit i.task (hand ∷ hands) ≡ one_if (is_own hand) + in_transit i.task hands
  first_counts hand hands =
      let joined = sum_by-append (λ h. one_if (is_own h)) (hand ∷ []) hands in omega (arith, joined)

  hands_counted : (js : List Job) (hands : List InTransit) → SpotsOf js hands
      → in_transit i.task (map hand_of hands) ≡ length (holders js hands)
  hands_counted [] [] spots = refl
  hands_counted [] (hand ∷ hands) spots = absurd spots
  hands_counted (job ∷ js) [] spots = absurd spots
  hands_counted (job ∷ js) (hand ∷ hands) spots =
      by (is_own (hand_of hand)) refl (hands_counted js hands spots.2)
    where
      by : (b : Bool) → is_own (hand_of hand) ≡ b → in_transit i.task (map hand_of hands) ≡ length (holders js hands)
          → in_transit i.task (hand_of hand ∷ map hand_of hands)
          ≡ length (if b then job.priority ∷ holders js hands else holders js hands)
      by true is rest =
          let parts = first_counts (hand_of hand) (map hand_of hands) in
          let one = ap one_if is in omega (arith, parts, one, rest)
      by false is rest =
          let parts = first_counts (hand_of hand) (map hand_of hands) in
          let none = ap one_if is in omega (arith, parts, none, rest)

  -- of the jobs below one
  pub others_within : (q : ℕ) (others : List Job) (rest : List InTransit) → q ≤ PRIORITIES → AllFall q others
      → SpotsOf others rest → NoneThere others
      → in_transit i.task (map hand_of rest) ≤ others_in_transit app (counted.Messages i.task) i q
  others_within q others rest small fall spots none =
      let count = hands_counted others rest spots in
      let most = falls_within counts_at q PRIORITIES (holders others rest)
      (falls_more q PRIORITIES (holders others rest) small (holders_fall q others rest fall))
      (holders_pass q q others rest (omega arith) fall spots none) in
      omega (arith, count, most)

  -- where nothing is left, none is armed or ready
  none_armed_of : (s : State) (v : Observer) → StateWell app s v → arming_count i.task s.values ≡ 0
  none_armed_of s v well =
      ap (count_by (λ (a : Armed). a.message.task == i.task)) (none_armed app accepted form s.values well.queued)

  none_ready_of : (s : State) → NothingIsLeft app i s → i.is_dispatcher ≡ true → IsIn (handlers app) i
      → ready_of app i.task s.values ≡ 0
  none_ready_of s nothing dispatches declared =
      ap (λ q. count_by (λ (m : Message). m.task == i.task) (messages (s.values (Guarded (section.Ready q)))))
      own_level
      ∙ ap (count_by (λ (m : Message). m.task == i.task)) (nothing.ready i declared dispatches (at_itself i))
    where
      own_level : task_priority app i.task ≡ i.priority
      own_level =
          let of = handler_of_task app accepted i declared in
          let level = task_priority_is app accepted i.task of.row of.at in
          let same = of.priority in omega (arith, level, same)

  -- where nothing is left, of all that are out
  pub out_within : (s : State) (v : Observer) → StateWell app s v → (hands : List Hand)
      → Stands app accepted form i hold hold_is few s hands → NothingIsLeft app i s → i.is_dispatcher ≡ true
      → IsIn (handlers app) i
      → number (s.values (Guarded (section.Free i.task)))
      ≡ in_transit i.task hands + arming_count i.task s.values + ready_of app i.task s.values
      → (job : Job) (others : List Job) → s.jobs ≡ job ∷ others → job.priority ≤ PRIORITIES
      → number (s.values (Guarded (section.Free i.task)))
      ≤ others_in_transit app (counted.Messages i.task) i job.priority + head_in takes hands
  out_within s v well hands stands nothing dispatches declared out job others jobs_are small =
      by stands.transits stands.are (subst (λ js. SpotsOf js stands.transits) jobs_are stands.spots)
    where
      none : NoneThere (job ∷ others)
      none = subst NoneThere jobs_are nothing.jobs

      fall : AllFall job.priority others
      fall = stack_falls app job others v.jobs (subst (λ js. StackWell app js v.jobs) jobs_are well.stack)

      first : (hand : InTransit) → one_if (is_own (hand_of hand)) ≤ in_hand takes (hand_of hand)
      first Bare = omega arith
      first (Forwards t) = omega arith
      first (GivesBack t) = omega arith

      by : (transits : List InTransit) → map hand_of transits ≡ hands → SpotsOf (job ∷ others) transits
          → number (s.values (Guarded (section.Free i.task)))
          ≤ others_in_transit app (counted.Messages i.task) i job.priority + head_in takes hands
      by [] are spots = absurd spots
      by (hand ∷ rest) are spots =
          let all = ap (in_transit i.task) are in
          let head = ap (head_in takes) are in
          let parts = first_counts (hand_of hand) (map hand_of rest) in
          let own = first hand in
          let deeper = others_within job.priority others rest small fall spots.2 none.1 in
          let no_armed = none_armed_of s v well in
          let no_ready = none_ready_of s nothing dispatches declared in
          omega (arith, out, all, head, parts, own, deeper, no_armed, no_ready)

  -- each job has a lower priority than this, where the system ceiling is below it
  pub all_fall : (n : ℕ) (js : List Job) (seens : List Seen) → StackWell app js seens → system_ceiling app js < n
      → AllFall n js
  all_fall n [] seens well below = tt
  all_fall n (job ∷ others) seens well below = (omega (arith, below), stack_falls app job others seens well)

  -- so of all that are out, where each job has a lower priority than this
  pub out_below : (s : State) (v : Observer) → StateWell app s v → (hands : List Hand)
      → Stands app accepted form i hold hold_is few s hands → NothingIsLeft app i s → i.is_dispatcher ≡ true
      → IsIn (handlers app) i
      → number (s.values (Guarded (section.Free i.task)))
      ≡ in_transit i.task hands + arming_count i.task s.values + ready_of app i.task s.values
      → (q : ℕ) → q ≤ PRIORITIES → AllFall q s.jobs
      → number (s.values (Guarded (section.Free i.task))) ≤ others_in_transit app (counted.Messages i.task) i q
  out_below s v well hands stands nothing dispatches declared out q small fall =
      let all = ap (in_transit i.task) stands.are in
      let deeper = others_within q s.jobs stands.transits small fall stands.spots nothing.jobs in
      let no_armed = none_armed_of s v well in
      let no_ready = none_ready_of s nothing dispatches declared in
      omega (arith, out, all, deeper, no_armed, no_ready)

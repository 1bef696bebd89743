-- The items of every run tell of messages what its queues and places are, at each beginning of them.
use Rattle.std.proofs.Common.{◌≡◌, ℕ, zero, suc, ◌+◌, ◌==◌, ◌<◌, ◌≤◌, Bool, true, false, if◌then◌else◌, count_by, List}
use Rattle.std.proofs.Common.{[]}
use Rattle.std.proofs.Common.{◌∷◌, ◌++◌, map, take, slice_get, Some, None, option_map, sym, ap, subst, ◌∙◌}
use Rattle.std.proofs.Common.{append-nil, append_assoc, arith}
use Rattle.std.proofs.lemmas.Option.{same_Some, none-some}
use Rattle.rt_actions.specs.Location.{Guarded}
use Rattle.rt_actions.specs.Content.{Armed, Values, messages, delays, least, message_of_handle}
use Rattle.rt_actions.specs.Action.{Places, FindsFull, Fires, Cancels, Moves, SetsAlarm, Returns}
use Rattle.rt_actions.specs.Doing.{Doing, over, does}
use Rattle.rt_ids.specs.declared.ids.Section.{Section}
use Rattle.rt_ids.specs.declared.ids.Section.TheVariants as section
use Rattle.rt_trace.specs.Label.{Label, Arrived, Ticked, Rang, Stepped, items_of}
use Rattle.rt_trace.specs.declared.item.Item.{Item}
use Rattle.rt_trace.specs.declared.item.What.{What}
use Rattle.rt_trace.specs.declared.item.What.TheVariants as what
use Rattle.rt_app.specs.Tree.{App}
use Rattle.rt_app.specs.Accepted.{IsAccepted}
use Rattle.rt_app.specs.Sending.{capacity_of}
use Rattle.rt_laws.specs.State.{Role, Init, Idle, Waiting, Serving, Job, State, first}
use Rattle.rt_laws.specs.Giving.{next_instant, is_due, return_item, next_item, item_given}
use Rattle.rt_laws.specs.Allowed.{May, after}
use Rattle.rt_laws.specs.Observer.{Observer, first_sight, sees}
use Rattle.rt_laws.specs.Places.{Hand, hands_behind, arming_count}
use Rattle.rt_laws.specs.MessagesByItems.{whats, TaskCounts, task_counts, still_armed, AgreeByCount, StartFirst}
use Rattle.rt_laws.specs.MessagesByItems.{IsArmedStill}
use Rattle.rt_laws.specs.MessagesByItems.{MayComeBehind, MessagesByItems}
use Rattle.rt_laws.specs.DeviceWords.{WithWords, One, Puts, things, state_after_put, RunsBeside}
use Rattle.rt_laws.proofs.Fine.{Queued}
use Rattle.rt_laws.proofs.Well.{NextKept, AllKept, StateWell}
use Rattle.rt_laws.proofs.Happens.{first_well}
use Rattle.rt_laws.proofs.Beside.{put_well}
use Rattle.rt_laws.proofs.Keeping.{next_well}
use Rattle.rt_laws.proofs.Hands.{InTransit}
use Rattle.rt_laws.proofs.ItemCounts.{Whereabouts, whereabouts, Agrees}
use Rattle.rt_laws.proofs.Told.{unargued, told_armed, count_map, least_told, handle_told}
use Rattle.rt_laws.proofs.Placed.{ticks, Kept, Placed, told_behind, next_placed, put_placed, first_placed}

-- where the counts of a task agree with where its places are, and no more are out than there are
module _ (c : TaskCounts) (w : Whereabouts) (is : Agrees c w) (places : ℕ) (few : w.out ≤ places) where
  started_few : c.start ≤ c.ready
  started_few = omega (arith, is.started)

  queued_few : c.ready + c.arm ≤ c.ok + c.fire
  queued_few = omega (arith, is.queued)

  armed_few : c.fire + c.cancel ≤ c.arm
  armed_few = omega (arith, is.armed)

  given_few : c.free ≤ c.start + c.cancel
  given_few = omega (arith, is.given_back)

  placed_few : c.ok ≤ c.free + places
  placed_few = omega (arith, is.placed, few)

some_left : (c : TaskCounts) (w : Whereabouts) → Agrees c w → (places : ℕ) → w.out < places → c.ok < c.free + places
some_left c w is places less = omega (arith, is.placed, less)

none_left : (c : TaskCounts) (w : Whereabouts) → Agrees c w → (places : ℕ) → w.out ≡ places → c.ok ≡ c.free + places
none_left c w is places full = omega (arith, is.placed, full)

-- where the items so far agree with hands and queues, their counts and their order are right
module _ (app : App) (ws : List What) (transits : List InTransit) (s : State)
    (kept : Kept app ws transits s.values) where
  abbrev at : ℕ → Whereabouts
  at t = whereabouts app t transits s.values

  abbrev armed : List Armed
  armed = delays (s.values (Guarded section.Timer))

  armed_told : (t : ℕ) → arming_count t s.values ≡ count_by (λ a. a.message.task == t) (still_armed ws)
  armed_told t =
      sym (count_map unargued (λ a. a.message.task == t) armed)
      ∙ ap (count_by (λ a. a.message.task == t)) (sym (told_armed app ws s.values kept.told))

  agree_by_count : Queued app s.values → (t : ℕ) → AgreeByCount app t ws
  agree_by_count queued t = record {
    started = started_few (task_counts t ws) (at t) (kept.counted t) (capacity_of app t) (queued.out t);
    queued = queued_few (task_counts t ws) (at t) (kept.counted t) (capacity_of app t) (queued.out t);
    armed = armed_few (task_counts t ws) (at t) (kept.counted t) (capacity_of app t) (queued.out t);
    armed_still = (kept.counted t).armed
        ∙ ap (λ n. (task_counts t ws).fire + (task_counts t ws).cancel + n) (armed_told t);
    given_back = given_few (task_counts t ws) (at t) (kept.counted t) (capacity_of app t) (queued.out t);
    placed = placed_few (task_counts t ws) (at t) (kept.counted t) (capacity_of app t) (queued.out t);
  }

  start_first : (p : ℕ) → StartFirst app p ws
  start_first p = (map (λ m. m.task) (messages (s.values (Guarded (section.Ready p)))), kept.told.ready p)

  armed_still : (n h : ℕ) (a : Armed) → message_of_handle n h armed ≡ Some a → IsArmedStill n h ws
  armed_still n h a is = (
    unargued a,
    ap (message_of_handle n h) (told_armed app ws s.values kept.told) ∙ handle_told n h armed
        ∙ ap (option_map unargued) is,
  )

  -- and the item of the running job's next action comes rightly
  comes_by : s.time ≡ ticks ws → (role : Role) (held : List Section) (rest : Doing Values)
      → NextKept app s.time s.values held rest → (w : What) → next_item s role rest ≡ Some w → MayComeBehind app ws w
  comes_by time role held over next w is = absurd (none-some w is)
  comes_by time role held (does (Places n) made later) next w is =
      subst (MayComeBehind app ws) (same_Some (what.Placed n) w is)
      (some_left (task_counts n ws) (at n) (kept.counted n) (capacity_of app n) next.1)
  comes_by time role held (does (FindsFull n) made later) next w is =
      subst (MayComeBehind app ws) (same_Some (what.Full n) w is)
      (none_left (task_counts n ws) (at n) (kept.counted n) (capacity_of app n) next.1)
  comes_by time role held (does (Fires m) made later) next w is =
      let due = next.1 in
      subst (MayComeBehind app ws) (same_Some (what.Fire m.task) w is) (
        unargued due.0,
        ap least (told_armed app ws s.values kept.told) ∙ least_told armed ∙ ap (option_map unargued) due.1,
        ap (λ k. k.task) due.2,
        subst (λ n. due.0.instant ≤ n) time due.3,
      )
  comes_by time role held (does (Cancels n h) made later) next w is =
      subst (MayComeBehind app ws) (same_Some (what.Cancel n h) w is) (armed_still n h next.1.0 next.1.1)
  comes_by time role held (does (Moves n h i) made later) next w is =
      subst (MayComeBehind app ws) (same_Some (what.Move n h i) w is) (armed_still n h next.1.0 next.1.1)
  comes_by time role held (does SetsAlarm made later) next w is =
      subst (MayComeBehind app ws) (same_Some _ w is) (by (is_due s.time (next_instant s)))
    where
      by : (due : Bool) → MayComeBehind app ws (if due then what.Alarm else what.AlarmSet)
      by true = tt
      by false = tt
  comes_by time role held (does Returns made later) next w is = by role is
    where
      by : (r : Role) → return_item r ≡ Some w → MayComeBehind app ws w
      by Init same = absurd (none-some w same)
      by Idle same = absurd (none-some w same)
      by Waiting same = absurd (none-some w same)
      by (Serving irq) same = subst (MayComeBehind app ws) (same_Some (what.Ret irq) w same) tt
  comes_by time role held (does action made later) next w is =
      subst (MayComeBehind app ws) (same_Some _ w is) tt

  comes_given : s.time ≡ ticks ws → (js : List Job) → AllKept app s.time s.values js → (w : What)
      → item_given s js ≡ Some w → MayComeBehind app ws w
  comes_given time [] order w is = absurd (none-some w is)
  comes_given time (job ∷ others) order w is = comes_by time job.role job.sections job.rest order.0 w is

-- what holds of beginnings of items, behind these
record FromHere (app : App) (ws : List What) (items : List Item) : Type 0 where
  counts : (n t : ℕ) → AgreeByCount app t (ws ++ whats (take n items))
  starts : (n p : ℕ) → StartFirst app p (ws ++ whats (take n items))
  comes : (n : ℕ) (item : Item) → slice_get items n ≡ Some item
      → MayComeBehind app (ws ++ whats (take n items)) item.what

record Here (app : App) (ws : List What) : Type 0 where
  count : (t : ℕ) → AgreeByCount app t ws
  start : (p : ℕ) → StartFirst app p ws

module _ (app : App) (ws : List What) (here : Here app ws) where
  count_here : (t : ℕ) → AgreeByCount app t (ws ++ [])
  count_here t = subst (AgreeByCount app t) (sym (append-nil ws)) (here.count t)

  start_here : (p : ℕ) → StartFirst app p (ws ++ [])
  start_here p = subst (StartFirst app p) (sym (append-nil ws)) (here.start p)

  no_more : FromHere app ws []
  no_more = record { counts = counts; starts = starts; comes = λ n item is. absurd (none-some item is) }
    where
      counts : (n t : ℕ) → AgreeByCount app t (ws ++ whats (take n []))
      counts zero t = count_here t
      counts (suc n) t = count_here t

      starts : (n p : ℕ) → StartFirst app p (ws ++ whats (take n []))
      starts zero p = start_here p
      starts (suc n) p = start_here p

  one_more : (item : Item) (items : List Item) → MayComeBehind app ws item.what
      → FromHere app (ws ++ item.what ∷ []) items → FromHere app ws (item ∷ items)
  one_more item items may behind = record { counts = counts; starts = starts; comes = comes }
    where
      moved : (n : ℕ) → ws ++ item.what ∷ [] ++ whats (take n items) ≡ ws ++ whats (take (suc n) (item ∷ items))
      moved n = append_assoc ws (item.what ∷ []) (whats (take n items))

      counts : (n t : ℕ) → AgreeByCount app t (ws ++ whats (take n (item ∷ items)))
      counts zero t = count_here t
      counts (suc n) t = subst (AgreeByCount app t) (moved n) (behind.counts n t)

      starts : (n p : ℕ) → StartFirst app p (ws ++ whats (take n (item ∷ items)))
      starts zero p = start_here p
      starts (suc n) p = subst (StartFirst app p) (moved n) (behind.starts n p)

      comes : (n : ℕ) (other : Item) → slice_get (item ∷ items) n ≡ Some other
          → MayComeBehind app (ws ++ whats (take n (item ∷ items))) other.what
      comes zero other is =
          subst (λ (i : Item). MayComeBehind app (ws ++ []) i.what) (same_Some item other is)
          (subst (λ us. MayComeBehind app us item.what) (sym (append-nil ws)) may)
      comes (suc n) other is =
          subst (λ us. MayComeBehind app us other.what) (moved n) (behind.comes n other is)

module _ (app : App) (accepted : IsAccepted app) where
  here_at : (s : State) (v : Observer) → StateWell app s v → (ws : List What) (hands : List Hand)
      → Placed app ws hands s → Here app ws
  here_at s v well ws hands placed = record {
    count = agree_by_count app ws placed.transits s placed.kept well.queued;
    start = start_first app ws placed.transits s placed.kept;
  }

  comes_at : (s : State) (v : Observer) → StateWell app s v → (ws : List What) (hands : List Hand)
      → Placed app ws hands s → (w : What) → May app s (Stepped (Some w)) → MayComeBehind app ws w
  comes_at s v well ws hands placed (what.Take irq depth) may = tt
  comes_at s v well ws hands placed w may =
      comes_given app ws placed.transits s placed.kept placed.time s.jobs well.order w may.1

  from_here : (moves : List (WithWords Label)) (n : ℕ) (s : State) (v : Observer) → StateWell app s v
      → (ws : List What) (hands : List Hand) → Placed app ws hands s → RunsBeside app s moves
      → FromHere app ws (items_of n (things moves))
  from_here [] n s v well ws hands placed runs = no_more app ws (here_at s v well ws hands placed)
  from_here (Puts local word ∷ moves) n s v well ws hands placed runs =
      from_here moves n (state_after_put local word s) v (put_well app s v local word well) ws hands
      (put_placed app accepted s local word ws hands placed) runs.1
  from_here (One label ∷ moves) n s v well ws hands placed runs = by label runs.0 (λ m.
      from_here moves m (after app s label) (sees app v label) (next_well app accepted s v label well runs.0)
      (told_behind ws label) (hands_behind hands label)
      (next_placed app accepted s v label well ws hands placed runs.0) runs.1)
    where
      labels : List Label
      labels = things moves

      here : Here app ws
      here = here_at s v well ws hands placed

      by : (label : Label) → May app s label
          → ((m : ℕ) → FromHere app (told_behind ws label) (items_of m labels))
          → FromHere app ws (items_of n (label ∷ labels))
      by (Arrived irq) may behind = one_more app ws here (record { step = n; what = what.Pend irq }) (items_of n labels)
          tt (behind n)
      by Ticked may behind = one_more app ws here (record { step = n; what = what.Tick }) (items_of n labels) tt
          (behind n)
      by Rang may behind = one_more app ws here (record { step = n; what = what.Alarm }) (items_of n labels) tt
          (behind n)
      by (Stepped None) may behind = behind (suc n)
      by (Stepped (Some w)) may behind = one_more app ws here (record { step = n; what = w }) (items_of (suc n) labels)
          (comes_at s v well ws hands placed w may) (behind (suc n))

  pub messages_by_items : (moves : List (WithWords Label)) → RunsBeside app (first app) moves
      → MessagesByItems app (items_of 0 (things moves))
  messages_by_items moves runs =
      let all = from_here moves 0 (first app) (first_sight app) (first_well app accepted) [] (None ∷ [])
      (first_placed app accepted) runs in
      record { counts = all.counts; starts = all.starts; comes = all.comes }

-- How often items name a task agrees with where its places are, whatever an action changes that fits the hands.
use Rattle.std.proofs.Common.{◌≡◌, ℕ, ◌+◌, ◌-◌, ◌==◌, ◌≤◌, Bool, true, false, not, cond, if◌then◌else◌, count_by, find}
use Rattle.std.proofs.Common.{List, [], ◌∷◌, ◌++◌, map, drop, slice_get, Option, Some, None, option_map, refl, sym, ap}
use Rattle.std.proofs.Common.{subst, ◌∙◌, arith, eq-eqb, add-zero}
use Rattle.std.specs.List.{AllByRecursion, position_or_len, remove}
use Rattle.std.proofs.lemmas.Bool.{eqb-true}
use Rattle.std.proofs.lemmas.Option.{same_Some, none-some}
use Rattle.std.proofs.lemmas.List.Sums.{sum_by-cons, sum_by_push}
use Rattle.rt_lemmas.proofs.Bools.{and_parts}
use Rattle.rt_lemmas.proofs.Numbers.{one_add}
use Rattle.rt_lemmas.proofs.Lists.{found_passes}
use Rattle.rt_ids.specs.Lists.{is_some_and, or_zero}
use Rattle.rt_actions.specs.Location.{Guarded}
use Rattle.rt_actions.specs.Content.{Message, Armed, Values, Number, Messages, number, messages, delays, has_instant}
use Rattle.rt_actions.specs.Content.{least_instant, least, has_handle, message_of_handle, without_least, without_handle}
use Rattle.rt_actions.specs.Content.{postponed_message}
use Rattle.rt_actions.specs.Action.{Action, Places, Frees, Readies, Starts, Arms, Fires, Cancels, Moves, SetsAlarm}
use Rattle.rt_actions.specs.Action.{Returns, effect}
use Rattle.rt_ids.specs.declared.ids.Section.{Section}
use Rattle.rt_ids.specs.declared.ids.Section.TheVariants as section
use Rattle.rt_trace.specs.declared.item.What.{What}
use Rattle.rt_trace.specs.declared.item.What.TheVariants as what
use Rattle.rt_app.specs.Tree.{Task, App}
use Rattle.rt_app.specs.Bodies.{task_priority}
use Rattle.rt_app.specs.Level.{is_software, is_of_level}
use Rattle.rt_laws.specs.State.{Role, Init, Idle, Waiting, Serving, State}
use Rattle.rt_laws.specs.Giving.{next_instant, is_due, return_item, item_of}
use Rattle.rt_laws.specs.Places.{in_transit, arming_count, ready_of}
use Rattle.rt_laws.specs.Queues.{KeepsOrder}
use Rattle.rt_laws.specs.MessagesByItems.{TaskCounts, task_counts}
use Rattle.rt_laws.proofs.Fine.{OfLevel, SameQueues, Queued, ActsFine}
use Rattle.rt_laws.proofs.Hands.{InTransit, Bare, Forwards, GivesBack, hand_of, transit_then, Suits}
use Rattle.rt_laws.proofs.ItemCounts.{one_if, forwards, gives_back, Whereabouts, whereabouts, Agrees, Change}
use Rattle.rt_laws.proofs.ItemCounts.{agrees_more}
use Rattle.rt_laws.proofs.ItemCounts.{back_out, one, counts_push, IsElse, same_change, else_none, placed_change}
use Rattle.rt_laws.proofs.ItemCounts.{freed_change}
use Rattle.rt_laws.proofs.ItemCounts.{armed_change, fired_change, cancelled_change, moved_change, readied_change}
use Rattle.rt_laws.proofs.ItemCounts.{started_change}

-- what is found is one of those that are counted
count_found : {X : Type 0} (test p : X → Bool) (xs : List X) (x : X) → find test xs ≡ Some x
    → count_by p (remove xs (position_or_len test xs)) + one_if (p x) ≡ count_by p xs
count_found test p [] x is = absurd (none-some x is)
count_found {X} test p (y ∷ xs) x is = go (test y) is (count_found test p xs x)
  where
    less : List X
    less = remove xs (position_or_len test xs)

    go : (b : Bool) → cond b (Some y) (find test xs) ≡ Some x
        → (find test xs ≡ Some x → count_by p less + one_if (p x) ≡ count_by p xs)
        → count_by p (remove (y ∷ xs) (cond (not b) (1 + position_or_len test xs) 0)) + one_if (p x)
        ≡ count_by p (y ∷ xs)
    go true same later =
        let all = sum_by-cons (λ z. one_if (p z)) y xs in
        subst (λ z. count_by p xs + one_if (p z) ≡ count_by p (y ∷ xs)) (same_Some y x same) (omega (arith, all))
    go false same later =
        let all = sum_by-cons (λ z. one_if (p z)) y xs in
        let some = sum_by-cons (λ z. one_if (p z)) y less in
        let inner = later same in
        subst (λ n. count_by p (remove (y ∷ xs) n) + one_if (p x) ≡ count_by p (y ∷ xs))
        (sym (one_add (position_or_len test xs))) (omega (arith, all, some, inner))

-- at one task: what the first hands have more than empty ones
module _ (t : ℕ) (hands : List InTransit) where
  forward_first : (hand : InTransit) → count_by (forwards t) (hand ∷ hands)
      ≡ one_if (forwards t hand) + count_by (forwards t) hands
  forward_first hand = sum_by-cons (λ h. one_if (forwards t h)) hand hands

  back_first : (hand : InTransit) → count_by (gives_back t) (hand ∷ hands)
      ≡ one_if (gives_back t hand) + count_by (gives_back t) hands
  back_first hand = sum_by-cons (λ h. one_if (gives_back t h)) hand hands

  forward_bare : count_by (forwards t) (Bare ∷ hands) ≡ count_by (forwards t) hands
  forward_bare = forward_first Bare ∙ omega arith

  back_bare : count_by (gives_back t) (Bare ∷ hands) ≡ count_by (gives_back t) hands
  back_bare = back_first Bare ∙ omega arith

  forward_more : (n : ℕ) → count_by (forwards t) (Forwards n ∷ hands)
      ≡ one_if (n == t) + count_by (forwards t) (Bare ∷ hands)
  forward_more n = forward_first (Forwards n) ∙ ap (λ k. one_if (n == t) + k) (sym forward_bare)

  forward_same : (n : ℕ) → count_by (forwards t) (GivesBack n ∷ hands) ≡ count_by (forwards t) (Bare ∷ hands)
  forward_same n = forward_first (GivesBack n) ∙ sym (forward_first Bare)

  back_more : (n : ℕ) → count_by (gives_back t) (GivesBack n ∷ hands)
      ≡ one_if (n == t) + count_by (gives_back t) (Bare ∷ hands)
  back_more n = back_first (GivesBack n) ∙ ap (λ k. one_if (n == t) + k) (sym back_bare)

  back_same : (n : ℕ) → count_by (gives_back t) (Forwards n ∷ hands) ≡ count_by (gives_back t) (Bare ∷ hands)
  back_same n = back_first (Forwards n) ∙ sym (back_first Bare)

turned : (n k : ℕ) → n + k ≡ k + n
turned n k = omega arith

-- what an action changes of one task's places
module _ (app : App) (t : ℕ) (vs : Values) where
  abbrev out : ℕ → ℕ
  out n = number (vs (Guarded (section.Free n)))

  abbrev armed : List Armed
  armed = delays (vs (Guarded section.Timer))

  abbrev ready : ℕ → List Message
  ready p = messages (vs (Guarded (section.Ready p)))

  abbrev armed_in : List Armed → ℕ
  armed_in all = count_by (λ a. a.message.task == t) all

  abbrev ready_in : List Message → ℕ
  ready_in ms = count_by (λ m. m.task == t) ms

  abbrev level : ℕ
  level = task_priority app t

  placed_out : (n : ℕ) → number (effect (Places n) vs (Guarded (section.Free t))) ≡ out t + one_if (n == t)
  placed_out n = go (n == t) refl
    where
      go : (b : Bool) → (n == t) ≡ b
          → number (if b then Number (out n + 1) else vs (Guarded (section.Free t))) ≡ out t + one_if b
      go true same = ap (λ k. out k + 1) (eqb-true n t same)
      go false other = sym (add-zero (out t))

  -- a place less is out, where one is
  freed_out : (n : ℕ) → one_if (n == t) ≤ out t
      → number (effect (Frees n) vs (Guarded (section.Free t))) + one_if (n == t) ≡ out t
  freed_out n some = go (n == t) refl some
    where
      less : (k : ℕ) → 1 ≤ k → k - 1 + 1 ≡ k
      less k one = omega arith

      go : (b : Bool) → (n == t) ≡ b → one_if b ≤ out t
          → number (if b then Number (out n - 1) else vs (Guarded (section.Free t))) + one_if b ≡ out t
      go true same has = ap (λ k. out k - 1 + 1) (eqb-true n t same) ∙ less (out t) has
      go false other has = add-zero (out t)

  armed_more : (i : ℕ) (m : Message) → arming_count t (effect (Arms i m) vs)
      ≡ arming_count t vs + one_if (m.task == t)
  armed_more i m = sum_by_push (λ (a : Armed). one_if (a.message.task == t)) armed _

  fired_less : (m : Message) (a : Armed) → least armed ≡ Some a → a.message ≡ m
      → arming_count t (effect (Fires m) vs) + one_if (m.task == t) ≡ arming_count t vs
  fired_less m a is same =
      subst (λ (k : Message). armed_in (without_least armed) + one_if (k.task == t) ≡ armed_in armed) same
      (count_found (has_instant (least_instant armed)) (λ b. b.message.task == t) armed a is)

  cancelled_less : (n h : ℕ) (a : Armed) → message_of_handle n h armed ≡ Some a
      → arming_count t (effect (Cancels n h) vs) + one_if (n == t) ≡ arming_count t vs
  cancelled_less n h a is =
      subst (λ (k : ℕ). armed_in (without_handle n h armed) + one_if (k == t) ≡ armed_in armed) of_task
      (count_found (has_handle n h) (λ b. b.message.task == t) armed a is)
    where
      of_task : a.message.task ≡ n
      of_task = eqb-true a.message.task n
          (and_parts (a.message.task == n) (a.handle == h) (found_passes (has_handle n h) armed a is)).0

  moved_same : (n h i : ℕ) (a : Armed) → message_of_handle n h armed ≡ Some a
      → arming_count t (effect (Moves n h i) vs) ≡ arming_count t vs
  moved_same n h i a is =
      ap (λ o. armed_in (without_handle n h armed ++ postponed_message i o)) is
      ∙ sum_by_push (λ (b : Armed). one_if (b.message.task == t)) (without_handle n h armed)
      (record a { instant = i })
      ∙ count_found (has_handle n h) (λ b. b.message.task == t) armed a is

  -- the queue of a message is that of its task's level
  same_level : (p : ℕ) (m : Message) → p ≡ task_priority app m.task → (m.task == t) ≡ true → (p == level) ≡ true
  same_level p m own here = eq-eqb p level (own ∙ ap (task_priority app) (eqb-true m.task t here))

  readied_more : (p : ℕ) (m : Message) → p ≡ task_priority app m.task
      → ready_of app t (effect (Readies p m) vs) ≡ ready_of app t vs + one_if (m.task == t)
  readied_more p m own = go (p == level) (m.task == t) refl refl
    where
      go : (b d : Bool) → (p == level) ≡ b → (m.task == t) ≡ d
          → ready_in (messages (if b then Messages (ready p ++ m ∷ []) else vs (Guarded (section.Ready level))))
          ≡ ready_in (ready level) + one_if (m.task == t)
      go true d same here =
          sum_by_push (λ (k : Message). one_if (k.task == t)) (ready p) m
          ∙ ap (λ k. ready_in (ready k) + one_if (m.task == t)) (eqb-true p level same)
      go false true other here = let same = same_level p m own here in absurd cc
      go false false other here =
          sym (add-zero (ready_in (ready level))) ∙ ap (λ b. ready_in (ready level) + one_if b) (sym here)

  started_less : (p : ℕ) (m : Message) (more : List Message) → p ≡ task_priority app m.task → ready p ≡ m ∷ more
      → ready_of app t (effect (Starts p m) vs) + one_if (m.task == t) ≡ ready_of app t vs
  started_less p m more own is = go (p == level) (m.task == t) refl refl
    where
      go : (b d : Bool) → (p == level) ≡ b → (m.task == t) ≡ d
          → ready_in (messages (if b then Messages (drop 1 (ready p)) else vs (Guarded (section.Ready level))))
          + one_if (m.task == t) ≡ ready_in (ready level)
      go true d same here =
          ap (λ ms. ready_in (drop 1 ms) + one_if (m.task == t)) is
          ∙ turned (ready_in more) (one_if (m.task == t))
          ∙ sym (sum_by-cons (λ (k : Message). one_if (k.task == t)) m more)
          ∙ ap (λ ms. ready_in ms) (sym is)
          ∙ ap (λ k. ready_in (ready k)) (eqb-true p level same)
      go false true other here = let same = same_level p m own here in absurd cc
      go false false other here =
          ap (λ b. ready_in (ready level) + one_if b) here ∙ add-zero (ready_in (ready level))

-- a message of a level is of a task of that priority
pub level_of : (app : App) (p : ℕ) (m : Message) → OfLevel app p m → p ≡ task_priority app m.task
level_of app p m is = go (slice_get app.tasks m.task) is
  where
    go : (o : Option Task) → is_some_and (is_of_level p) o ≡ true
        → p ≡ or_zero (option_map (λ (t : Task). t.priority) o)
    go None is = cc
    go (Some t) is = sym (eqb-true t.priority p (and_parts (is_software t) (t.priority == p) is).1)

-- the oldest message of a level is of the level
pub oldest_level : (app : App) (p : ℕ) (m : Message) (more ms : List Message) → ms ≡ m ∷ more
    → AllByRecursion (OfLevel app p) ms → p ≡ task_priority app m.task
oldest_level app p m more ms is all = level_of app p m (subst (AllByRecursion (OfLevel app p)) is all).0

module _ (app : App) (ws : List What) where
  -- the counts of each task agree with where its places are
  abbrev pub Counted : List InTransit → Values → Type 0
  Counted hands vs = (t : ℕ) → Agrees (task_counts t ws) (whereabouts app t hands vs)

  -- so they are where queues hold the same
  pub counted_same : (hands : List InTransit) (vs us : Values) → SameQueues us vs → Counted hands vs → Counted hands us
  counted_same hands vs us same counted t =
      let old = counted t in
      record {
        queued = old.queued;
        given_back = old.given_back;
        armed = old.armed
            ∙ ap (λ c. (task_counts t ws).fire + (task_counts t ws).cancel
            + count_by (λ a. a.message.task == t) (delays c))
            (sym (same section.Timer tt));
        started = old.started ∙ ap (λ c. (task_counts t ws).start + count_by (λ m. m.task == t) (messages c))
            (sym (same (section.Ready (task_priority app t)) tt));
        placed = old.placed ∙ ap (λ c. (task_counts t ws).free + number c) (sym (same (section.Free t) tt));
      }

  -- and with an item more
  pub counted_push : (w : What) (hands others : List InTransit) (vs us : Values) → Counted hands vs
      → ((t : ℕ) → Change (one t w) (whereabouts app t hands vs) (whereabouts app t others us))
      → (t : ℕ) → Agrees (task_counts t (ws ++ w ∷ [])) (whereabouts app t others us)
  counted_push w hands others vs us counted change t =
      subst (λ c. Agrees c (whereabouts app t others us)) (sym (counts_push t ws w))
      (agrees_more (task_counts t ws) (one t w) (whereabouts app t hands vs) (whereabouts app t others us) (counted t)
      (change t))

  pub counted_else : (w : What) (hands : List InTransit) (vs : Values) → IsElse w → Counted hands vs
      → (t : ℕ) → Agrees (task_counts t (ws ++ w ∷ [])) (whereabouts app t hands vs)
  counted_else w hands vs is counted =
      counted_push w hands hands vs vs counted
      (λ t. subst (λ c. Change c (whereabouts app t hands vs) (whereabouts app t hands vs)) (sym (else_none t w is))
      (same_change (whereabouts app t hands vs)))

-- empty hands come and go
module _ (app : App) (ws : List What) (hands : List InTransit) (vs : Values) where
  pub counted_bare : Counted app ws hands vs → Counted app ws (Bare ∷ hands) vs
  counted_bare counted t =
      let old = counted t in
      let forward = forward_bare t hands in
      let back = back_bare t hands in
      record {
        queued = old.queued ∙ ap (λ n. (task_counts t ws).ready + (task_counts t ws).arm + n) (sym forward);
        given_back = old.given_back ∙ ap (λ n. (task_counts t ws).free + n) (sym back);
        armed = old.armed;
        started = old.started;
        placed = old.placed;
      }

  pub counted_below : Counted app ws (Bare ∷ hands) vs → Counted app ws hands vs
  counted_below counted t =
      let old = counted t in
      let forward = forward_bare t hands in
      let back = back_bare t hands in
      record {
        queued = old.queued ∙ ap (λ n. (task_counts t ws).ready + (task_counts t ws).arm + n) forward;
        given_back = old.given_back ∙ ap (λ n. (task_counts t ws).free + n) back;
        armed = old.armed;
        started = old.started;
        placed = old.placed;
      }

-- the places in transit are those in hands, whichever is to be done with them
hand_split : (t : ℕ) (hand : InTransit) → one_if (is_some_and (λ u. u == t) (hand_of hand))
    ≡ one_if (forwards t hand) + one_if (gives_back t hand)
hand_split t Bare = refl
hand_split t (Forwards u) = sym (add-zero (one_if (u == t)))
hand_split t (GivesBack u) = none_add (one_if (u == t))
  where
    none_add : (n : ℕ) → n ≡ 0 + n
    none_add n = omega arith

transit_of : (t : ℕ) (hands : List InTransit)
    → in_transit t (map hand_of hands) ≡ count_by (forwards t) hands + count_by (gives_back t) hands
transit_of t [] = refl
transit_of t (hand ∷ hands) =
    sum_by-cons (λ h. one_if (is_some_and (λ u. u == t) h)) (hand_of hand) (map hand_of hands)
    ∙ ap (λ n. n + in_transit t (map hand_of hands)) (hand_split t hand)
    ∙ ap (λ n. one_if (forwards t hand) + one_if (gives_back t hand) + n) (transit_of t hands)
    ∙ four (one_if (forwards t hand)) (one_if (gives_back t hand)) (count_by (forwards t) hands)
    (count_by (gives_back t) hands)
    ∙ ap (λ n. n + (one_if (gives_back t hand) + count_by (gives_back t) hands)) (sym (forward_first t hands hand))
    ∙ ap (λ n. count_by (forwards t) (hand ∷ hands) + n) (sym (back_first t hands hand))
  where
    four : (a b c d : ℕ) → a + b + (c + d) ≡ (a + c) + (b + d)
    four a b c d = omega arith

-- so the places that are out are those in transit, armed and ready
pub places_are_counted : (app : App) (ws : List What) (hands : List InTransit) (vs : Values) → Counted app ws hands vs
    → (t : ℕ) → number (vs (Guarded (section.Free t)))
    ≡ in_transit t (map hand_of hands) + arming_count t vs + ready_of app t vs
places_are_counted app ws hands vs counted t =
    whole (task_counts t ws) (whereabouts app t hands vs) (counted t)
    ∙ ap (λ n. n + arming_count t vs + ready_of app t vs) (sym (transit_of t hands))
  where
    whole : (c : TaskCounts) (w : Whereabouts) → Agrees c w → w.out ≡ w.forward + w.back + w.armed + w.ready
    whole c w is = omega (arith, is.queued, is.given_back, is.armed, is.started, is.placed)

pub else_by_alarm : (due : Bool) → IsElse (if due then what.Alarm else what.AlarmSet)
else_by_alarm true = tt
else_by_alarm false = tt

pub else_by_return : (role : Role) (w : What) → return_item role ≡ Some w → IsElse w
else_by_return Init w is = absurd (none-some w is)
else_by_return Idle w is = absurd (none-some w is)
else_by_return Waiting w is = absurd (none-some w is)
else_by_return (Serving irq) w is = subst IsElse (same_Some (what.Ret irq) w is) tt

-- The running job does its next action, with these hands before it.
module _ (app : App) (s : State) (role : Role) (q : ℕ) (held : List Section) (queued : Queued app s.values)
    (ws : List What) (hands : List InTransit) where
  abbrev CountedWith : InTransit → Values → Type 0
  CountedWith hand vs = Counted app ws (hand ∷ hands) vs

  -- behind an action and its item
  abbrev Behind : InTransit → Values → What → Type 0
  Behind hand us w = (t : ℕ) → Agrees (task_counts t (ws ++ w ∷ [])) (whereabouts app t (hand ∷ hands) us)

  abbrev after_effect : Action → Values
  after_effect action = effect action s.values

  abbrev changes : (w : What) (before behind : InTransit) (action : Action) → CountedWith before s.values
      → ((t : ℕ) → Change (one t w) (whereabouts app t (before ∷ hands) s.values)
      (whereabouts app t (behind ∷ hands) (after_effect action)))
      → Behind behind (after_effect action) w
  changes w before behind action counted =
      counted_push app ws w (before ∷ hands) (behind ∷ hands) s.values (after_effect action) counted

  -- so are they behind an action that fits
  pub effect_counted : (hand : InTransit) (action : Action) (w : What) → item_of s role action ≡ Some w
      → Suits hand action → ActsFine app role q held action → KeepsOrder app s.time s.values action
      → CountedWith hand s.values
      → Behind (transit_then hand action) (after_effect action) w
  effect_counted hand (Places n) w is suits fine order counted =
      let before = subst (λ h. CountedWith h s.values) suits counted in
      subst (Behind (Forwards n) (after_effect (Places n))) (same_Some (what.Placed n) w is)
      (changes (what.Placed n) Bare (Forwards n) (Places n) before
      (λ t. placed_change (forward_more t hands n) (back_same t hands n) (placed_out app t s.values n)))
  effect_counted hand (Frees n) w is suits fine order counted =
      let before = subst (λ h. CountedWith h s.values) suits counted in
      subst (Behind Bare (after_effect (Frees n))) (same_Some (what.Free n) w is)
      (changes (what.Free n) (GivesBack n) Bare (Frees n) before
      (λ t. freed_change (sym (forward_same t hands n)) (back_more t hands n)
      (freed_out app t s.values n
      (some (count_by (gives_back t) (Bare ∷ hands)) (back_more t hands n)
      (back_out (task_counts t ws) (whereabouts app t (GivesBack n ∷ hands) s.values) (before t))))))
    where
      some : {b k o : ℕ} (h : ℕ) → k ≡ b + h → k ≤ o → b ≤ o
      some h is less = omega arith
  effect_counted hand (Arms i m) w is suits fine order counted =
      let before = subst (λ h. CountedWith h s.values) suits counted in
      subst (Behind Bare (after_effect (Arms i m))) (same_Some (what.Arm m.task i) w is)
      (changes (what.Arm m.task i) (Forwards m.task) Bare (Arms i m) before
      (λ t. armed_change (forward_more t hands m.task) (sym (back_same t hands m.task))
      (armed_more app t s.values i m)))
  effect_counted hand (Fires m) w is suits fine order counted =
      let before = subst (λ h. CountedWith h s.values) suits counted in
      subst (Behind (Forwards m.task) (after_effect (Fires m))) (same_Some (what.Fire m.task) w is)
      (changes (what.Fire m.task) Bare (Forwards m.task) (Fires m) before
      (λ t. fired_change (forward_more t hands m.task) (back_same t hands m.task)
      (fired_less app t s.values m order.0 order.1 order.2)))
  effect_counted hand (Cancels n h) w is suits fine order counted =
      let before = subst (λ h. CountedWith h s.values) suits counted in
      subst (Behind (GivesBack n) (after_effect (Cancels n h))) (same_Some (what.Cancel n h) w is)
      (changes (what.Cancel n h) Bare (GivesBack n) (Cancels n h) before
      (λ t. cancelled_change (forward_same t hands n) (back_more t hands n)
      (cancelled_less app t s.values n h order.0 order.1)))
  effect_counted hand (Moves n h i) w is suits fine order counted =
      subst (Behind hand (after_effect (Moves n h i))) (same_Some (what.Move n h i) w is)
      (changes (what.Move n h i) hand hand (Moves n h i) counted
      (λ t. moved_change (moved_same app t s.values n h i order.0 order.1)))
  effect_counted hand (Readies p m) w is suits fine order counted =
      let before = subst (λ h. CountedWith h s.values) suits counted in
      subst (Behind Bare (after_effect (Readies p m))) (same_Some (what.Ready m.task) w is)
      (changes (what.Ready m.task) (Forwards m.task) Bare (Readies p m) before
      (λ t. readied_change (forward_more t hands m.task) (sym (back_same t hands m.task))
      (readied_more app t s.values p m (level_of app p m fine))))
  effect_counted hand (Starts p m) w is suits fine order counted =
      let before = subst (λ h. CountedWith h s.values) suits counted in
      let own = oldest_level app p m order.0 (messages (s.values (Guarded (section.Ready p)))) order.1
      (queued.ready p) in
      subst (Behind (GivesBack m.task) (after_effect (Starts p m))) (same_Some (what.Start m.task m.args) w is)
      (changes (what.Start m.task m.args) Bare (GivesBack m.task) (Starts p m) before
      (λ t. started_change (forward_same t hands m.task) (back_more t hands m.task)
      (started_less app t s.values p m order.0 own order.1)))
  effect_counted hand SetsAlarm w is suits fine order counted =
      counted_else app ws w (hand ∷ hands) s.values
      (subst IsElse (same_Some _ w is) (else_by_alarm (is_due s.time (next_instant s)))) counted
  effect_counted hand Returns w is suits fine order counted =
      counted_else app ws w (hand ∷ hands) s.values (else_by_return role w is) counted
  effect_counted hand action w is suits fine order counted =
      counted_else app ws w (hand ∷ hands) s.values (subst IsElse (same_Some _ w is) tt) counted

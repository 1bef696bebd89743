-- In every run of an accepted application the places that are out are those in transit, armed and ready, and what items
-- tell of messages agrees with that: what the started jobs have left to do fits what they have in their hands.
use Rattle.std.proofs.Common.{◌≡◌, ℕ, suc, ◌+◌, ◌^◌, true, false, if◌then◌else◌, count_by, List, [], ◌∷◌, ◌++◌, map}
use Rattle.std.proofs.Common.{slice_set, Option, Some, None, option_map, refl, sym, ap, subst, ◌∙◌, arith}
use Rattle.std.proofs.lemmas.List.Sums.{sum_by_push}
use Rattle.std.proofs.lemmas.Option.{same_Some, none-some}
use Rattle.rt_lemmas.proofs.Lists.{find_has}
use Rattle.rt_ids.specs.Lists.{or_zero}
use Rattle.rt_actions.specs.Location.{Guarded}
use Rattle.rt_actions.specs.Content.{Values, number}
use Rattle.rt_actions.specs.Action.{Action, SetsAlarm, Ends, Returns, effect}
use Rattle.rt_actions.specs.Doing.{Doing, over, does}
use Rattle.rt_ids.specs.declared.ids.BodyId.TheVariants as body
use Rattle.rt_ids.specs.declared.ids.Section.{Section}
use Rattle.rt_ids.specs.declared.ids.Section.TheVariants as section
use Rattle.rt_trace.specs.Label.{Label, Arrived, Ticked, Rang, Stepped}
use Rattle.rt_trace.specs.declared.item.What.{What}
use Rattle.rt_trace.specs.declared.item.What.TheVariants as what
use Rattle.rt_app.specs.Tree.{App, Body}
use Rattle.rt_app.specs.Handlers.{Service, services}
use Rattle.rt_app.specs.Doings.{init_doing, idle_doing, handler_doing}
use Rattle.rt_app.specs.Accepted.{IsAccepted}
use Rattle.rt_laws.specs.Services.{service_at, priority_of, timer_number}
use Rattle.rt_laws.specs.State.{Role, Init, Idle, Serving, Job, State, reached_values, first_values, first}
use Rattle.rt_laws.specs.Preemption.{candidate}
use Rattle.rt_laws.specs.Giving.{next_instant, is_due, return_item, item_of, next_item, item_given}
use Rattle.rt_laws.specs.Acting.{job_after_step, state_after_pend, idle_job, answer, state_after_doing}
use Rattle.rt_laws.specs.Allowed.{MayStep, May, state_after_start, state_after_silence, state_after_item, after}
use Rattle.rt_laws.specs.Observer.{Seen, Observer, first_sight, sees}
use Rattle.rt_laws.specs.Places.{Hand, hands_behind, hands_from, in_transit, arming_count, ready_of, CountsPlaces}
use Rattle.rt_laws.specs.MessagesByItems.{is_tick}
use Rattle.rt_laws.specs.DeviceWords.{WithWords, One, Puts, things, state_after_put, RunsBeside, after_moves}
use Rattle.rt_laws.proofs.Fine.{SameQueues, Queued, IsFine, held_after, first_queued, queued_effect, effect_same}
use Rattle.rt_laws.proofs.Fine.{reached_same}
use Rattle.rt_laws.proofs.FineHandlers.{init_fine, idle_fine, services_fine}
use Rattle.rt_laws.proofs.Well.{NextKept, AllKept, StackWell, StateWell}
use Rattle.rt_laws.proofs.Pending.{starts_above}
use Rattle.rt_laws.proofs.Happens.{first_well}
use Rattle.rt_laws.proofs.Beside.{put_well}
use Rattle.rt_laws.proofs.Keeping.{next_well}
use Rattle.rt_laws.proofs.Hands.{InTransit, Bare, hand_of, transit_then, Fits, init_fits, idle_fits, handler_fits}
use Rattle.rt_laws.proofs.ItemCounts.{one_if, IsElse}
use Rattle.rt_laws.proofs.Counted.{Counted, counted_same, counted_else, counted_bare, counted_below, effect_counted}
use Rattle.rt_laws.proofs.Counted.{places_are_counted}
use Rattle.rt_laws.proofs.Told.{Told, told_same, told_else, effect_told}

-- each started job has hands that fit
abbrev AllFit : List Job → List InTransit → Type 0
AllFit [] [] = Unit {0}
AllFit [] (hand ∷ hands) = ⊥
AllFit (job ∷ others) [] = ⊥
AllFit (job ∷ others) (hand ∷ hands) = Fits hand job.rest × AllFit others hands

-- how many ticks are among these items
abbrev pub ticks : List What → ℕ
ticks ws = count_by is_tick ws

-- what these items tell agrees with what hands and queues have
pub record Kept (app : App) (ws : List What) (hands : List InTransit) (vs : Values) : Type 0 where
  pub counted : Counted app ws hands vs
  pub told : Told app ws vs

-- and with a state, where an observer of places knows these hands
pub record Placed (app : App) (ws : List What) (hands : List Hand) (s : State) : Type 0 where
  pub transits : List InTransit
  pub are : hands ≡ map hand_of transits
  fits : AllFit s.jobs transits
  pub kept : Kept app ws transits s.values
  pub time : s.time ≡ ticks ws

untimed : (ws : List What) (w : What) → is_tick w ≡ false → ticks (ws ++ w ∷ []) ≡ ticks ws
untimed ws w is =
    sum_by_push (λ x. one_if (is_tick x)) ws w ∙ ap (λ b. ticks ws + one_if b) is ∙ no_more (ticks ws)
  where
    no_more : (n : ℕ) → n + 0 ≡ n
    no_more n = omega arith

module _ (app : App) (ws : List What) where
  kept_same : (hands : List InTransit) (vs us : Values) → SameQueues us vs → Kept app ws hands vs → Kept app ws hands us
  kept_same hands vs us same kept = record {
    counted = counted_same app ws hands vs us same kept.counted;
    told = told_same app ws vs us same kept.told;
  }

  kept_else : (w : What) (hands : List InTransit) (vs : Values) → IsElse w → Kept app ws hands vs
      → Kept app (ws ++ w ∷ []) hands vs
  kept_else w hands vs is kept = record {
    counted = counted_else app ws w hands vs is kept.counted;
    told = told_else app ws vs kept.told w is;
  }

module _ (app : App) (accepted : IsAccepted app) (s : State) (queued : Queued app s.values) (ws : List What)
    (time : s.time ≡ ticks ws) where
  module _ (role : Role) (q k : ℕ) (held : List Section) (base : Values) (job : Job) (others : List Job)
      (hand : InTransit) (transits : List InTransit) (below : AllFit others transits)
      (kept : Kept app ws (hand ∷ transits) s.values) where
    abbrev Asked : Doing Values → Type 0
    Asked rest = IsFine app role q k held base rest × NextKept app s.time s.values held rest × Fits hand rest

    -- the state behind the next action, where its item is seen
    abbrev PlacedBy : Doing Values → What → Type 0
    PlacedBy rest w = Placed app (ws ++ w ∷ []) (hands_behind (map hand_of (hand ∷ transits)) (Stepped (Some w)))
        (state_after_doing app s job others rest)

    module _ (action : Action) (made : Values) (next : ℕ → Values → Doing Values)
        (asked : Asked (does action made next)) where
      abbrev vs : Values
      vs = effect action s.values

      abbrev rest : Doing Values
      rest = next (answer s action) vs

      rest_fine : IsFine app role q (answer s action) (held_after held action) vs rest
      rest_fine = asked.0.5 (answer s action) vs
          (queued_effect app s.values queued role q held action asked.0.1 s.time asked.1.1)
          (effect_same action held s.values made asked.1.0 asked.1.2)

      kept_by : (w : What) → item_of s role action ≡ Some w
          → Kept app (ws ++ w ∷ []) (transit_then hand action ∷ transits) vs
      kept_by w is = record {
        counted = effect_counted app s role q held queued ws transits hand action w is asked.2.0 asked.0.1 asked.1.1
            kept.counted;
        told = effect_told app s role q held queued ws kept.told action w is asked.0.1 asked.1.1;
      }

      -- it goes on behind an action
      goes : (w : What) → is_tick w ≡ false → Kept app (ws ++ w ∷ []) (transit_then hand action ∷ transits) vs
          → (t : State) (after : Job) → t.jobs ≡ after ∷ others → after.rest ≡ rest
          → t.values ≡ reached_values rest vs → t.time ≡ s.time
          → Placed app (ws ++ w ∷ []) (map hand_of (transit_then hand action ∷ transits)) t
      goes w no_tick now t after jobs rest_is values same = record {
        transits = transit_then hand action ∷ transits;
        are = refl;
        fits = subst (λ js. AllFit js (transit_then hand action ∷ transits)) (sym jobs)
            (subst (Fits (transit_then hand action)) (sym rest_is) (asked.2.1 (answer s action) vs), below);
        kept = subst (Kept app (ws ++ w ∷ []) (transit_then hand action ∷ transits)) (sym values)
            (kept_same app (ws ++ w ∷ []) (transit_then hand action ∷ transits) vs (reached_values rest vs)
            (reached_same app role q (answer s action) (held_after held action) rest vs rest_fine) now);
        time = same ∙ time ∙ sym (untimed ws w no_tick);
      }

    -- the thread begins `idle`, or waits
    idles : (w : What) → is_tick w ≡ false → IsElse w → hand ≡ Bare → (o : Option Body)
        → Placed app (ws ++ w ∷ []) (map hand_of (hand ∷ transits))
        (record s {
          jobs = idle_job app s.values o ∷ others;
          values =
              reached_values (idle_job app s.values o).rest s.values;
        })
    idles w no_tick is empty None = record {
      transits = hand ∷ transits;
      are = refl;
      fits = (tt, below);
      kept = kept_else app ws w (hand ∷ transits) s.values is kept;
      time = time ∙ sym (untimed ws w no_tick);
    }
    idles w no_tick is empty (Some b) = record {
      transits = hand ∷ transits;
      are = refl;
      fits = (subst (λ h. Fits h (idle_doing app s.values)) (sym empty) (idle_fits app s.values), below);
      kept = kept_same app (ws ++ w ∷ []) (hand ∷ transits) s.values (reached_values (idle_doing app s.values) s.values)
          (reached_same app Idle 0 0 [] (idle_doing app s.values) s.values (idle_fine app accepted 0 s.values queued))
          (kept_else app ws w (hand ∷ transits) s.values is kept);
      time = time ∙ sym (untimed ws w no_tick);
    }

    acts : (rest : Doing Values) → Asked rest → (w : What) → next_item s role rest ≡ Some w → PlacedBy rest w
    acts over asked w is = absurd (none-some w is)
    acts (does SetsAlarm made next) asked w is =
        let on : State = record s {
          jobs = record (job_after_step job) { rest = next 0 s.values } ∷ others;
          values = reached_values (next 0 s.values) s.values;
        } in
        subst (PlacedBy (does SetsAlarm made next))
        (same_Some (if is_due s.time (next_instant s) then what.Alarm else what.AlarmSet) w is)
        (elim (is_due s.time (next_instant s)) as
        (λ b. Placed app (ws ++ (if b then what.Alarm else what.AlarmSet) ∷ [])
        (hands_behind (map hand_of (hand ∷ transits)) (Stepped (Some (if b then what.Alarm else what.AlarmSet))))
        (if b then state_after_pend (timer_number app) (record on { alarm = None }) else record on
        { alarm = next_instant s })) [
          | true ↦ goes SetsAlarm made next asked what.Alarm refl
              (kept_else app ws what.Alarm (hand ∷ transits) s.values tt kept) _ _ refl refl refl refl
          | false ↦ goes SetsAlarm made next asked what.AlarmSet refl
              (kept_else app ws what.AlarmSet (hand ∷ transits) s.values tt kept) _ _ refl refl refl refl
        ])
    acts (does (Ends body.Init) made next) asked w is =
        subst (PlacedBy (does (Ends body.Init) made next)) (same_Some (what.End body.Init) w is)
        (idles (what.End body.Init) refl tt asked.2.0 app.idle)
    acts (does (Ends body.Idle) made next) asked w is =
        subst (PlacedBy (does (Ends body.Idle) made next)) (same_Some (what.End body.Idle) w is)
        (idles (what.End body.Idle) refl tt asked.2.0 app.idle)
    acts (does Returns made next) asked w is =
        let serving = asked.0.1 in
        let ret : What = what.Ret serving.0 in
        let last = kept_else app ws ret (hand ∷ transits) s.values tt kept in
        subst (PlacedBy (does Returns made next))
        (same_Some ret w (subst (λ r. return_item r ≡ Some w) serving.1 is)) (record {
          transits = transits;
          are = refl;
          fits = below;
          kept = record {
            counted = counted_below app (ws ++ ret ∷ []) transits s.values
                (subst (λ h. Counted app (ws ++ ret ∷ []) (h ∷ transits) s.values) asked.2.0 last.counted);
            told = last.told;
          };
          time = time ∙ sym (untimed ws ret refl);
        })
    acts (does action made next) asked w is =
        subst (PlacedBy (does action made next)) (same_Some _ w is)
        (goes action made next asked _ refl (kept_by action made next asked _ refl) _ _ refl refl refl refl)

  -- a step that gives an item
  gives_placed : (js : List Job) (vs : List Seen) (transits : List InTransit) → StackWell app js vs
      → AllKept app s.time s.values js → MayStep js → (w : What) → item_given s js ≡ Some w
      → AllFit js transits → Kept app ws transits s.values
      → Placed app (ws ++ w ∷ []) (hands_behind (map hand_of transits) (Stepped (Some w))) (state_after_item app s js)
  gives_placed [] seens transits stack order may w is fits kept = absurd may
  gives_placed (job ∷ others) [] transits stack order may w is fits kept = absurd stack
  gives_placed (job ∷ others) (seen ∷ seens) [] stack order may w is fits kept = absurd fits
  gives_placed (job ∷ others) (seen ∷ seens) (hand ∷ transits) stack order may w is fits kept =
      acts job.role job.priority stack.0.answered job.sections stack.0.base job others hand transits fits.1 kept
      job.rest (stack.0.fine, order.0, fits.0) w is

  -- a silent step
  silent_placed : (js : List Job) (transits : List InTransit) → MayStep js → AllFit js transits
      → Kept app ws transits s.values → Placed app ws (map hand_of transits) (state_after_silence s js)
  silent_placed [] transits may fits kept = absurd may
  silent_placed (job ∷ others) [] may fits kept = absurd fits
  silent_placed (job ∷ others) (hand ∷ transits) may fits kept =
      record { transits = hand ∷ transits; are = refl; fits = fits; kept = kept; time = time }

  -- the handling of an interrupt starts, with empty hands
  takes_placed : (transits : List InTransit) → AllFit s.jobs transits → Kept app ws transits s.values → (irq depth : ℕ)
      → candidate app s ≡ Some irq → (o : Option Service) → service_at app irq ≡ o
      → Placed app (ws ++ what.Take irq depth ∷ []) (None ∷ map hand_of transits)
      (state_after_start app (record s { pending = slice_set s.pending irq false }) irq o)
  takes_placed transits fits kept irq depth is None at =
      let above = starts_above app s irq is in
      let none : priority_of app irq ≡ 0 = ap (λ o. or_zero (option_map (λ (x : Service). x.priority) o)) at in
      absurd (omega arith)
  takes_placed transits fits kept irq depth is (Some x) at =
      let take : What = what.Take irq depth in
      let on = kept_else app ws take transits s.values tt kept in
      record {
        transits = Bare ∷ transits;
        are = refl;
        fits = (handler_fits app x.handler s.values, fits);
        kept = kept_same app (ws ++ take ∷ []) (Bare ∷ transits) s.values
            (reached_values (handler_doing app x.handler s.values) s.values)
            (reached_same app (Serving irq) x.priority 0 [] (handler_doing app x.handler s.values) s.values
            (find_has (λ (x : Service). (n : ℕ) (vs : Values) → Queued app vs
            → IsFine app (Serving irq) x.priority n [] vs (handler_doing app x.handler vs)) _ (services app) x
            (services_fine app accepted irq) at 0 s.values queued))
            (record { counted = counted_bare app (ws ++ take ∷ []) transits s.values on.counted; told = on.told });
        time = time ∙ sym (untimed ws take refl);
      }

-- what items tell, with what a label shows
abbrev pub told_behind : List What → Label → List What
told_behind ws (Arrived irq) = ws ++ what.Pend irq ∷ []
told_behind ws Ticked = ws ++ what.Tick ∷ []
told_behind ws Rang = ws ++ what.Alarm ∷ []
told_behind ws (Stepped None) = ws
told_behind ws (Stepped (Some w)) = ws ++ w ∷ []

abbrev told_after : List What → List Label → List What
told_after ws [] = ws
told_after ws (label ∷ labels) = told_after (told_behind ws label) labels

module _ (app : App) (accepted : IsAccepted app) where
  -- an arrival, a tick or an alarm changes neither hands nor queues
  quietly : (ws : List What) (w : What) (transits : List InTransit) (s t : State) → IsElse w → AllFit t.jobs transits
      → Kept app ws transits s.values → (t.time ≡ ticks (ws ++ w ∷ [])) × (t.values ≡ s.values)
      → Placed app (ws ++ w ∷ []) (map hand_of transits) t
  quietly ws w transits s t is fits kept same = record {
    transits = transits;
    are = refl;
    fits = fits;
    kept = kept_else app ws w transits t.values is (subst (Kept app ws transits) (sym same.1) kept);
    time = same.0;
  }

  next : (s : State) (v : Observer) (label : Label) → StateWell app s v → (ws : List What) (hands : List Hand)
      → (placed : Placed app ws hands s) → May app s label
      → Placed app (told_behind ws label) (hands_behind (map hand_of placed.transits) label) (after app s label)
  next s v (Arrived irq) well ws hands placed may =
      quietly ws (what.Pend irq) placed.transits s (after app s (Arrived irq)) tt placed.fits placed.kept
      (placed.time ∙ sym (untimed ws (what.Pend irq) refl), refl)
  next s v Ticked well ws hands placed may =
      quietly ws what.Tick placed.transits s (after app s Ticked) tt placed.fits placed.kept
      (ap suc placed.time ∙ one_more (ticks ws) ∙ sym (sum_by_push (λ x. one_if (is_tick x)) ws what.Tick), refl)
    where
      one_more : (n : ℕ) → suc n ≡ n + 1
      one_more n = omega arith
  next s v Rang well ws hands placed may =
      quietly ws what.Alarm placed.transits s (after app s Rang) tt placed.fits placed.kept
      (placed.time ∙ sym (untimed ws what.Alarm refl), refl)
  next s v (Stepped None) well ws hands placed may =
      silent_placed app accepted s well.queued ws placed.time s.jobs placed.transits may.step placed.fits placed.kept
  next s v (Stepped (Some (what.Take irq depth))) well ws hands placed may =
      takes_placed app accepted s well.queued ws placed.time placed.transits placed.fits placed.kept irq depth may.1
      (service_at app irq) refl
  next s v (Stepped (Some w)) well ws hands placed may =
      gives_placed app accepted s well.queued ws placed.time s.jobs v.jobs placed.transits well.stack well.order
      may.0.step w may.1 placed.fits placed.kept

  pub next_placed : (s : State) (v : Observer) (label : Label) → StateWell app s v → (ws : List What)
      (hands : List Hand) → Placed app ws hands s → May app s label
      → Placed app (told_behind ws label) (hands_behind hands label) (after app s label)
  next_placed s v label well ws hands placed may =
      subst (λ us. Placed app (told_behind ws label) (hands_behind us label) (after app s label)) (sym placed.are)
      (next s v label well ws hands placed may)

  pub first_placed : Placed app [] (None ∷ []) (first app)
  first_placed = record {
    transits = Bare ∷ [];
    are = refl;
    fits = (init_fits app (first_values app), tt);
    kept = kept_same app [] (Bare ∷ []) (first_values app) (reached_values (init_doing app (first_values app))
        (first_values app))
        (reached_same app Init (2 ^ app.bits) 0 [] (init_doing app (first_values app)) (first_values app)
        (init_fine app accepted 0 (first_values app) (first_queued app)))
        (record {
          counted = λ t. record { queued = refl; given_back = refl; armed = refl; started = refl; placed = refl };
          told = record { timer = refl; ready = λ p. refl };
        });
    time = refl;
  }

  -- a word changes neither hands nor queues
  pub put_placed : (s : State) (n word : ℕ) (ws : List What) (hands : List Hand) → Placed app ws hands s
      → Placed app ws hands (state_after_put n word s)
  put_placed s n word ws hands placed = record {
    transits = placed.transits;
    are = placed.are;
    fits = placed.fits;
    kept = kept_same app ws placed.transits s.values (state_after_put n word s).values (λ x queue. refl) placed.kept;
    time = placed.time;
  }

  all_placed : (moves : List (WithWords Label)) (s : State) (v : Observer) → StateWell app s v → (ws : List What)
      (hands : List Hand) → Placed app ws hands s → RunsBeside app s moves
      → Placed app (told_after ws (things moves)) (hands_from hands (things moves)) (after_moves app s moves)
  all_placed [] s v well ws hands placed runs = placed
  all_placed (One label ∷ moves) s v well ws hands placed runs =
      all_placed moves (after app s label) (sees app v label) (next_well app accepted s v label well runs.0)
      (told_behind ws label) (hands_behind hands label) (next_placed s v label well ws hands placed runs.0) runs.1
  all_placed (Puts n word ∷ moves) s v well ws hands placed runs =
      all_placed moves (state_after_put n word s) v (put_well app s v n word well) ws hands
      (put_placed s n word ws hands placed) runs.1

  pub places_counted : (moves : List (WithWords Label)) → RunsBeside app (first app) moves
      → CountsPlaces app (things moves) (after_moves app (first app) moves)
  places_counted moves runs =
      let placed =
      all_placed moves (first app) (first_sight app) (first_well app accepted) [] (None ∷ []) first_placed runs in
      let s : State = after_moves app (first app) moves in
      subst (λ us. (t : ℕ) → number (s.values (Guarded (section.Free t)))
      ≡ in_transit t us + arming_count t s.values + ready_of app t s.values) (sym placed.are)
      (places_are_counted app (told_after [] (things moves)) placed.transits s.values placed.kept.counted)

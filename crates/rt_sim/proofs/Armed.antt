-- Armings follow the items that show them: each `arm` and `move` item is one arming, and no other label raises their
-- count. Ticks and armings of events are no more than the events.
use Rattle.std.proofs.Common.{◌≡◌, ℕ, zero, suc, ◌+◌, ◌≤◌, ◌<◌, ◌^◌, Bool, true, false, cond, nat_le, if◌then◌else◌}
use Rattle.std.proofs.Common.{List, [], ◌∷◌, ◌++◌, length, take, count_by, slice_set, Option, Some, None}
use Rattle.std.proofs.Common.{refl, ap, ◌∙◌, arith}
use Rattle.std.proofs.lemmas.List.{length-map}
use Rattle.std.proofs.lemmas.List.Sums.{sum_by-cons}
use Rattle.rt_lemmas.proofs.Lists.{find_has}
use Rattle.rt_actions.specs.Content.{Values, timer_content}
use Rattle.rt_ids.specs.Event.{Event, Arrive, Tick, Step}
use Rattle.rt_actions.specs.Action.{Action, Arms, Moves, SetsAlarm, Ends, Returns, effect}
use Rattle.rt_actions.specs.Doing.{Doing, over, does}
use Rattle.rt_ids.specs.declared.ids.BodyId.TheVariants as body
use Rattle.rt_ids.specs.declared.ids.Section.{Section}
use Rattle.rt_ids.specs.declared.ids.Section.TheVariants as section
use Rattle.rt_trace.specs.Label.{Label, Arrived, Ticked, Rang, Stepped, items_of}
use Rattle.rt_trace.specs.declared.item.Item.{Item}
use Rattle.rt_trace.specs.declared.item.What.{What}
use Rattle.rt_trace.specs.declared.item.What.TheVariants as what
use Rattle.rt_app.specs.Tree.{App, Body}
use Rattle.rt_app.specs.Accepted.{IsAccepted}
use Rattle.rt_app.specs.Doings.{idle_doing, handler_doing}
use Rattle.rt_app.specs.Handlers.{Service, services}
use Rattle.rt_code.specs.Image.{Image}
use Rattle.rt_core.specs.declared.alarm.Alarm.{Alarm}
use Rattle.rt_core.specs.Core.{Core, reset}
use Rattle.rt_core.specs.Stepping.{step}
use Rattle.rt_core.specs.Trace.{ring, happen, labels}
use Rattle.rt_core.specs.Transfer.{core_after_pend}
use Rattle.rt_laws.specs.Services.{service_at, timer_number}
use Rattle.rt_laws.specs.State.{Role, Idle, Serving, Job, State, reached_values}
use Rattle.rt_laws.specs.Giving.{item_of, next_item, item_given, next_instant, is_due}
use Rattle.rt_laws.specs.Acting.{job_after_step, state_after_pend, idle_job, answer, state_after_doing}
use Rattle.rt_laws.specs.Allowed.{May, state_after_start, state_after_silence, state_after_item, after}
use Rattle.rt_laws.specs.Observer.{Seen, Observer}
use Rattle.rt_laws.specs.DeviceWords.{WithWords, One, Puts, ones, things}
use Rattle.rt_laws.proofs.Armings.{armings}
use Rattle.rt_laws.proofs.Beside.{things_ones, things_behind}
use Rattle.rt_laws.proofs.Fine.{SameQueues, Queued, IsFine, held_after, queued_effect, effect_same, reached_same}
use Rattle.rt_laws.proofs.FineHandlers.{idle_fine, services_fine}
use Rattle.rt_laws.proofs.Well.{NextKept, AllKept, StackWell, StateWell}
use Rattle.rt_sim.specs.Good.{is_tick_event, is_arming, CountsFit, CountsOfFewFit}
use Rattle.rt_sim.specs.Beside.{core_after_put, labels_beside, shown_beside, CountsFitBeside}
use Rattle.rt_sim.proofs.Fitting.{Fits}
use Rattle.rt_sim.proofs.Wordless.{shown_ones}

-- how many armings the item of a step shows
abbrev pub arming_in : Option What → ℕ
arming_in None = 0
arming_in (Some w) = cond (is_arming w) 1 0

abbrev pub arming_of : Label → ℕ
arming_of (Stepped shown) = arming_in shown
arming_of label = 0

-- how many armings labels show
abbrev pub armed : List Label → ℕ
armed [] = 0
armed (label ∷ labels) = arming_of label + armed labels

pub armed-append : (xs ys : List Label) → armed (xs ++ ys) ≡ armed xs + armed ys
armed-append [] ys = omega arith
armed-append (x ∷ xs) ys = let rest = armed-append xs ys in omega (arith, rest)

armed_items : (n : ℕ) (ls : List Label) → count_by (λ (item : Item). is_arming item.what) (items_of n ls) ≡ armed ls
armed_items n [] = refl
armed_items n (Arrived irq ∷ ls) = let rest = armed_items n ls in omega (arith, rest)
armed_items n (Ticked ∷ ls) = let rest = armed_items n ls in omega (arith, rest)
armed_items n (Rang ∷ ls) = let rest = armed_items n ls in omega (arith, rest)
armed_items n (Stepped None ∷ ls) = let rest = armed_items (suc n) ls in omega (arith, rest)
armed_items n (Stepped (Some w) ∷ ls) =
    let item : Item = record { step = n; what = w } in
    let more = sum_by-cons (λ (item : Item). cond (is_arming item.what) 1 0) item (items_of (suc n) ls) in
    let rest = armed_items (suc n) ls in
    omega (arith, more, rest)

one_arming : (label : Label) → arming_of label ≤ 1
one_arming (Arrived irq) = omega arith
one_arming Ticked = omega arith
one_arming Rang = omega arith
one_arming (Stepped None) = omega arith
one_arming (Stepped (Some w)) = either (is_arming w)
  where
    either : (b : Bool) → cond b 1 0 ≤ 1
    either true = omega arith
    either false = omega arith

module _ (app : App) (img : Image) where
  -- the ticks and the armings of events, between which words may come
  abbrev pub counted : Core → List (WithWords Event) → ℕ
  counted c moves = count_by is_tick_event (things moves) + armed (things (labels_beside app img c moves))

  ring_arms_none : (c : Core) (o : Option Alarm) → armed (ring c o).1 ≡ 0
  ring_arms_none c None = refl
  ring_arms_none c (Some alarm) =
      let rung : Core × List Label = (record (core_after_pend c alarm.irq) { alarm = None }, Rang ∷ []) in
      let left : Core × List Label = (c, []) in
      elim (nat_le alarm.instant c.time) as (λ b. armed (if◌then◌else◌ {A = Core × List Label} b rung left).1 ≡ 0)
      [ true ↦ refl | false ↦ refl ]

  one_count : (c : Core) (e : Event) → cond (is_tick_event e) 1 0 + armed (happen img c e).1 ≤ 1
  unfolding happen
  one_count c (Arrive irq) = omega arith
  one_count c Tick =
      let none = ring_arms_none (record c { time = suc c.time }) c.alarm in
      omega (arith, none)
  one_count c Step = let one = one_arming (Stepped (step img c).1) in omega (arith, one)

  -- one event more in front
  pub counted_more : (c : Core) (e : Event) (moves : List (WithWords Event)) → counted c (One e ∷ moves)
      ≡ cond (is_tick_event e) 1 0 + armed (happen img c e).1 + counted (happen img c e).0 moves
  counted_more c e moves =
      let ticks = sum_by-cons (λ (e : Event). cond (is_tick_event e) 1 0) e (things moves) in
      let rest : List (WithWords Label) = labels_beside app img (happen img c e).0 moves in
      let arms = ap armed (things_behind (happen img c e).1 rest) ∙ armed-append (happen img c e).1 (things rest) in
      omega (arith, ticks, arms)

  counted_few : (moves : List (WithWords Event)) (c : Core) → counted c moves ≤ length moves
  counted_few [] c = omega arith
  counted_few (One e ∷ moves) c =
      let more = counted_more c e moves in
      let one = one_count c e in
      let rest = counted_few moves (happen img c e).0 in
      omega (arith, more, one, rest)
  counted_few (Puts n word ∷ moves) c =
      let rest = counted_few moves (core_after_put app n word c) in omega (arith, rest)

  -- those of a front are no more
  counted_front : (moves : List (WithWords Event)) (c : Core) (n : ℕ) → counted c (take n moves) ≤ counted c moves
  counted_front moves c zero = omega arith
  counted_front [] c (suc n) = omega arith
  counted_front (One e ∷ moves) c (suc n) =
      let rest = counted_front moves (happen img c e).0 n in
      let whole = counted_more c e moves in
      let front = counted_more c e (take n moves) in
      omega (arith, rest, whole, front)
  counted_front (Puts local word ∷ moves) c (suc n) = counted_front moves (core_after_put app local word c) n

module _ (app : App) (img : Image) (moves : List (WithWords Event)) where
  -- counted by the items, and by the labels
  pub counts_fit : CountsFitBeside app img moves → Fits app (counted app img (reset img) moves)
  counts_fit fit mono is =
      let same = armed_items 0 (things (shown_beside app img moves)) in
      let few = fit mono is in
      omega (arith, same, few)

  -- those of a front fit too
  pub front_fits : (n : ℕ) → CountsFitBeside app img moves → CountsFitBeside app img (take n moves)
  front_fits n fit mono is =
      let same = armed_items 0 (things (shown_beside app img moves)) in
      let front = armed_items 0 (things (shown_beside app img (take n moves))) in
      let less = counted_front app img moves (reset img) n in
      let few = fit mono is in
      omega (arith, same, front, less, few)

-- events without words
module _ (app : App) (img : Image) (events : List Event) where
  same_ticks : count_by is_tick_event (things (ones events)) ≡ count_by is_tick_event events
  same_ticks = ap (count_by is_tick_event) (things_ones events)

  pub fits_ones : CountsFit app img events → CountsFitBeside app img (ones events)
  fits_ones fit mono is =
      let ticks = same_ticks in
      let items = ap (λ ls. count_by (λ (item : Item). is_arming item.what) (items_of 0 ls))
      (shown_ones app img events (reset img)) in
      let few = fit mono is in
      omega (arith, ticks, items, few)

  pub counts_of_few : length events < 2 ^ 31 → CountsFit app img events
  counts_of_few few mono is =
      let same = armed_items 0 (labels img (reset img) events) in
      let shown = ap armed (shown_ones app img events (reset img)) in
      let ticks = same_ticks in
      let long = length-map events One in
      let within = counted_few app img (ones events) (reset img) in
      omega (arith, same, shown, ticks, long, few, within)

pub counts_of_few_fit : CountsOfFewFit
counts_of_few_fit app img events few = counts_of_few app img events few

same_armings : (vs ws : Values) → SameQueues vs ws → armings vs ≡ armings ws
same_armings vs ws same = ap (λ c. (timer_content c).given + (timer_content c).moved) (same section.Timer tt)

module _ (app : App) (accepted : IsAccepted app) (s : State) (queued : Queued app s.values) where
  -- what an action arms its item shows
  effect_shown : (role : Role) (action : Action) (w : What) → item_of s role action ≡ Some w
      → armings (effect action s.values) ≤ armings s.values + arming_in (Some w)
  effect_shown role (Arms i m) w is = let one : 1 ≡ arming_in (Some w) = ap arming_in is in omega (arith, one)
  effect_shown role (Moves n h i) w is = let one : 1 ≡ arming_in (Some w) = ap arming_in is in omega (arith, one)
  effect_shown role action w is = omega arith

  idles : (o : Option Body) → armings (reached_values (idle_job app s.values o).rest s.values) ≡ armings s.values
  idles None = refl
  idles (Some b) =
      same_armings (reached_values (idle_doing app s.values) s.values) s.values
      (reached_same app Idle 0 0 [] (idle_doing app s.values) s.values (idle_fine app accepted 0 s.values queued))

  module _ (role : Role) (q k : ℕ) (held : List Section) (base : Values) (job : Job) (others : List Job) where
    abbrev Asked : Doing Values → Type 0
    Asked rest = IsFine app role q k held base rest × NextKept app s.time s.values held rest

    -- behind an action, with the values that the code has made on its way to the next
    behind : (action : Action) (made : Values) (next : ℕ → Values → Doing Values) → Asked (does action made next)
        → armings (reached_values (next (answer s action) (effect action s.values)) (effect action s.values))
        ≡ armings (effect action s.values)
    behind action made next asked =
        same_armings (reached_values (next (answer s action) vs) vs) vs
        (reached_same app role q (answer s action) (held_after held action) (next (answer s action) vs) vs
        (asked.0.5 (answer s action) vs
        (queued_effect app s.values queued role q held action asked.0.1 s.time asked.1.1)
        (effect_same action held s.values made asked.1.0 asked.1.2)))
      where
        vs : Values
        vs = effect action s.values

    acts : (rest : Doing Values) → Asked rest → (w : What) → next_item s role rest ≡ Some w
        → armings (state_after_doing app s job others rest).values ≤ armings s.values + arming_in (Some w)
    acts over asked w is = omega arith
    acts (does SetsAlarm made next) asked w is =
        let on : State = record s {
          jobs = record (job_after_step job) { rest = next 0 s.values } ∷ others;
          values = reached_values (next 0 s.values) s.values;
        } in
        let same : armings on.values ≡ armings s.values = behind SetsAlarm made next asked in
        elim (is_due s.time (next_instant s)) as
        (λ b. armings (if b then state_after_pend (timer_number app) (record on { alarm = None })
        else record on { alarm = next_instant s }).values ≤ armings s.values + arming_in (Some w)) [
          | true ↦ omega (arith, same)
          | false ↦ omega (arith, same)
        ]
    acts (does (Ends body.Init) made next) asked w is = let same = idles app.idle in omega (arith, same)
    acts (does (Ends body.Idle) made next) asked w is = let same = idles app.idle in omega (arith, same)
    acts (does Returns made next) asked w is = omega arith
    acts (does action made next) asked w is =
        let same = behind action made next asked in
        let shown = effect_shown role action w is in
        omega (arith, same, shown)

  gives_armings : (js : List Job) (vs : List Seen) → StackWell app js vs → AllKept app s.time s.values js → (w : What)
      → item_given s js ≡ Some w
      → armings (state_after_item app s js).values ≤ armings s.values + arming_in (Some w)
  gives_armings [] vs stack order w is = omega arith
  gives_armings (job ∷ others) [] stack order w is = absurd stack
  gives_armings (job ∷ others) (seen ∷ seens) stack order w is =
      acts job.role job.priority stack.0.answered job.sections stack.0.base job others job.rest
      (stack.0.fine, order.0) w is

  -- the handling of an interrupt starts
  starts_armings : (irq : ℕ) (o : Option Service) → service_at app irq ≡ o
      → armings (state_after_start app (record s { pending = slice_set s.pending irq false }) irq o).values
      ≡ armings s.values
  starts_armings irq None at = refl
  starts_armings irq (Some x) at =
      same_armings (reached_values (handler_doing app x.handler s.values) s.values) s.values
      (reached_same app (Serving irq) x.priority 0 [] (handler_doing app x.handler s.values) s.values
      (find_has (λ (x : Service). (n : ℕ) (vs : Values) → Queued app vs
      → IsFine app (Serving irq) x.priority n [] vs (handler_doing app x.handler vs)) _ (services app) x
      (services_fine app accepted irq) at 0 s.values queued))

  silence_armings : (js : List Job) → armings (state_after_silence s js).values ≡ armings s.values
  silence_armings [] = refl
  silence_armings (job ∷ others) = refl

-- armings rise by what a label shows
pub armings_shown : (app : App) → IsAccepted app → (s : State) (v : Observer) → StateWell app s v → (label : Label)
    → May app s label → armings (after app s label).values ≤ armings s.values + arming_of label
armings_shown app accepted s v well (Arrived irq) may = omega arith
armings_shown app accepted s v well Ticked may = omega arith
armings_shown app accepted s v well Rang may = omega arith
armings_shown app accepted s v well (Stepped None) may =
    let same = silence_armings app accepted s well.queued s.jobs in omega (arith, same)
armings_shown app accepted s v well (Stepped (Some (what.Take irq depth))) may =
    let same = starts_armings app accepted s well.queued irq (service_at app irq) refl in omega (arith, same)
armings_shown app accepted s v well (Stepped (Some w)) may =
    gives_armings app accepted s well.queued s.jobs v.jobs well.stack well.order w may.1

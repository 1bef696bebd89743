-- How many messages of a level are ready behind a run follows from its labels: each `ready` of the level puts one
-- there, and each start takes one.
use Rattle.std.proofs.Common.{◌≡◌, ℕ, suc, ◌+◌, ◌==◌, ◌^◌, Bool, true, false, if◌then◌else◌, count_by, List, [], ◌∷◌}
use Rattle.std.proofs.Common.{◌++◌, drop, length, length-append, slice_set, Option, Some, None, refl, sym, ap, subst}
use Rattle.std.proofs.Common.{◌∙◌, arith}
use Rattle.std.specs.List.{AllByRecursion}
use Rattle.std.proofs.lemmas.Bool.{eqb-true}
use Rattle.std.proofs.lemmas.List.Sums.{sum_by-cons}
use Rattle.std.proofs.lemmas.Option.{same_Some, none-some}
use Rattle.rt_lemmas.proofs.Lists.{find_has}
use Rattle.rt_actions.specs.Location.{Guarded}
use Rattle.rt_actions.specs.Content.{Message, Values, Messages, messages}
use Rattle.rt_actions.specs.Action.{Action, Readies, Starts, SetsAlarm, Ends, Returns, effect}
use Rattle.rt_actions.specs.Doing.{Doing, over, does}
use Rattle.rt_ids.specs.declared.ids.BodyId.TheVariants as body
use Rattle.rt_ids.specs.declared.ids.Section.{Section}
use Rattle.rt_ids.specs.declared.ids.Section.TheVariants as section
use Rattle.rt_trace.specs.Label.{Label, Arrived, Ticked, Rang, Stepped}
use Rattle.rt_trace.specs.declared.item.What.{What}
use Rattle.rt_trace.specs.declared.item.What.TheVariants as what
use Rattle.rt_app.specs.Tree.{App, Body}
use Rattle.rt_app.specs.Handlers.{Service, services}
use Rattle.rt_app.specs.Doings.{init_doing, idle_doing, handler_doing}
use Rattle.rt_app.specs.Accepted.{IsAccepted}
use Rattle.rt_laws.specs.Services.{service_at, timer_number}
use Rattle.rt_laws.specs.State.{Role, Init, Idle, Serving, Job, State, reached_values, first_values, first}
use Rattle.rt_laws.specs.Giving.{next_instant, is_due, return_item, next_item, item_given}
use Rattle.rt_laws.specs.Acting.{job_after_step, state_after_pend, idle_job, answer, state_after_doing}
use Rattle.rt_laws.specs.Allowed.{May, state_after_start, state_after_silence, state_after_item, after}
use Rattle.rt_laws.specs.Observer.{Seen, Observer, first_sight, sees}
use Rattle.rt_laws.specs.MessagesWaiting.{is_ready_at, is_start_at, ready_after}
use Rattle.rt_laws.specs.DeviceWords.{WithWords, One, Puts, things, state_after_put, RunsBeside, after_moves}
use Rattle.rt_laws.proofs.Fine.{OfLevel, Queued, IsFine, held_after, first_queued, queued_effect, effect_same}
use Rattle.rt_laws.proofs.Fine.{reached_same}
use Rattle.rt_laws.proofs.FineHandlers.{init_fine, idle_fine, services_fine}
use Rattle.rt_laws.proofs.Well.{NextKept, AllKept, StackWell, StateWell}
use Rattle.rt_laws.proofs.Happens.{first_well}
use Rattle.rt_laws.proofs.Beside.{put_well}
use Rattle.rt_laws.proofs.Keeping.{next_well}
use Rattle.rt_laws.proofs.ItemCounts.{one_if}
use Rattle.rt_laws.proofs.Counted.{level_of}
use Rattle.rt_laws.proofs.ReadyServed.{ready}

module _ (app : App) (p : ℕ) where
  abbrev queue : Section
  queue = section.Ready p

  -- how many are ready
  abbrev pub many : Values → ℕ
  many vs = length (ready app p vs)

  -- a label changes how many are ready by what it shows
  abbrev pub Shows : Label → Values → Values → Type 0
  Shows label vs ws = many ws + one_if (is_start_at app p label) ≡ many vs + one_if (is_ready_at app p label)

  module _ (vs : Values) where
    abbrev ready_at : ℕ → List Message
    ready_at r = messages (vs (Guarded (section.Ready r)))

    readies : (r : ℕ) (m : Message) → OfLevel app r m
        → Shows (Stepped (Some (what.Ready m.task))) vs (effect (Readies r m) vs)
    readies r m of_level =
        go (r == p) refl ∙ ap (λ k. many vs + one_if (k == p)) (level_of app r m of_level)
      where
        go : (b : Bool) → (r == p) ≡ b
            → length (messages (if b then Messages (ready_at r ++ m ∷ []) else vs (Guarded queue))) + 0
            ≡ many vs + one_if b
        go true same =
            let more = length-append (ready_at r) (m ∷ []) in
            let here = ap (λ k. length (ready_at k)) (eqb-true r p same) in
            omega (arith, more, here)
        go false other = refl

    starts : (r : ℕ) (m : Message) (more : List Message) → OfLevel app r m → ready_at r ≡ m ∷ more
        → Shows (Stepped (Some (what.Start m.task m.args))) vs (effect (Starts r m) vs)
    starts r m more of_level is =
        ap (λ k. many (effect (Starts r m) vs) + one_if (k == p)) (sym (level_of app r m of_level))
        ∙ go (r == p) refl
      where
        go : (b : Bool) → (r == p) ≡ b
            → length (messages (if b then Messages (drop 1 (ready_at r)) else vs (Guarded queue))) + one_if b
            ≡ many vs + 0
        go true same =
            let long : length (ready_at r) ≡ suc (length more) = ap length is in
            let less : length (drop 1 (ready_at r)) ≡ length more = ap (λ ms. length (drop 1 ms)) is in
            let here = ap (λ k. length (ready_at k)) (eqb-true r p same) in
            omega (arith, long, less, here)
        go false other = refl

    oldest : (r : ℕ) (m : Message) (more ms : List Message) → ms ≡ m ∷ more → AllByRecursion (OfLevel app r) ms
        → OfLevel app r m
    oldest r m more ms is all = (subst (AllByRecursion (OfLevel app r)) is all).0

  module _ (accepted : IsAccepted app) (s : State) (queued : Queued app s.values) where
    module _ (role : Role) (q k : ℕ) (held : List Section) (base : Values) (job : Job) (others : List Job) where
      abbrev Asked : Doing Values → Type 0
      Asked rest = IsFine app role q k held base rest × NextKept app s.time s.values held rest

      -- the state behind the next action, where its item is seen
      abbrev ShownBy : Doing Values → What → Type 0
      ShownBy rest w = Shows (Stepped (Some w)) s.values (state_after_doing app s job others rest).values

      -- it goes on behind an action
      reaches : (action : Action) (made : Values) (next : ℕ → Values → Doing Values) → Asked (does action made next)
          → many (reached_values (next (answer s action) (effect action s.values)) (effect action s.values))
          ≡ many (effect action s.values)
      reaches action made next asked =
          ap (λ c. length (messages c))
          (reached_same app role q (answer s action) (held_after held action) rest vs rest_fine queue tt)
        where
          vs : Values
          vs = effect action s.values

          rest : Doing Values
          rest = next (answer s action) vs

          rest_fine : IsFine app role q (answer s action) (held_after held action) vs rest
          rest_fine = asked.0.5 (answer s action) vs
              (queued_effect app s.values queued role q held action asked.0.1 s.time asked.1.1)
              (effect_same action held s.values made asked.1.0 asked.1.2)

      goes : (action : Action) (made : Values) (next : ℕ → Values → Doing Values) → Asked (does action made next)
          → (w : What) → Shows (Stepped (Some w)) s.values (effect action s.values)
          → Shows (Stepped (Some w)) s.values
          (reached_values (next (answer s action) (effect action s.values)) (effect action s.values))
      goes action made next asked w shows =
          ap (λ n. n + one_if (is_start_at app p (Stepped (Some w)))) (reaches action made next asked) ∙ shows

      stays : (action : Action) (made : Values) (next : ℕ → Values → Doing Values) → Asked (does action made next)
          → many (effect action s.values) ≡ many s.values
          → many (reached_values (next (answer s action) (effect action s.values)) (effect action s.values)) + 0
          ≡ many s.values + 0
      stays action made next asked same = ap (λ n. n + 0) (reaches action made next asked ∙ same)

      -- the thread begins `idle`, or waits
      idles : (o : Option Body) → many (reached_values (idle_job app s.values o).rest s.values) + 0 ≡ many s.values + 0
      idles None = refl
      idles (Some b) = ap (λ c. length (messages c) + 0)
          (reached_same app Idle 0 0 [] (idle_doing app s.values) s.values (idle_fine app accepted 0 s.values queued)
          queue tt)

      acts : (rest : Doing Values) → Asked rest → (w : What) → next_item s role rest ≡ Some w → ShownBy rest w
      acts over asked w is = absurd (none-some w is)
      acts (does (Readies r m) made next) asked w is =
          subst (ShownBy (does (Readies r m) made next)) (same_Some (what.Ready m.task) w is)
          (goes (Readies r m) made next asked (what.Ready m.task) (readies s.values r m asked.0.1))
      acts (does (Starts r m) made next) asked w is =
          let order = asked.1.1 in
          subst (ShownBy (does (Starts r m) made next)) (same_Some (what.Start m.task m.args) w is)
          (goes (Starts r m) made next asked (what.Start m.task m.args)
          (starts s.values r m order.0
          (oldest s.values r m order.0 (messages (s.values (Guarded (section.Ready r)))) order.1 (queued.ready r))
          order.1))
      acts (does SetsAlarm made next) asked w is =
          let on : State = record s {
            jobs = record (job_after_step job) { rest = next 0 s.values } ∷ others;
            values = reached_values (next 0 s.values) s.values;
          } in
          subst (ShownBy (does SetsAlarm made next))
          (same_Some (if is_due s.time (next_instant s) then what.Alarm else what.AlarmSet) w is)
          (elim (is_due s.time (next_instant s)) as
          (λ b. Shows (Stepped (Some (if b then what.Alarm else what.AlarmSet))) s.values
          (if b then state_after_pend (timer_number app) (record on { alarm = None }) else record on
          { alarm = next_instant s }).values) [
            | true ↦ stays SetsAlarm made next asked refl
            | false ↦ stays SetsAlarm made next asked refl
          ])
      acts (does (Ends body.Init) made next) asked w is =
          subst (ShownBy (does (Ends body.Init) made next)) (same_Some (what.End body.Init) w is) (idles app.idle)
      acts (does (Ends body.Idle) made next) asked w is =
          subst (ShownBy (does (Ends body.Idle) made next)) (same_Some (what.End body.Idle) w is) (idles app.idle)
      acts (does Returns made next) asked w is =
          let serving = asked.0.1 in
          subst (ShownBy (does Returns made next))
          (same_Some (what.Ret serving.0) w (subst (λ r. return_item r ≡ Some w) serving.1 is)) refl
      acts (does action made next) asked w is =
          subst (ShownBy (does action made next)) (same_Some _ w is) (stays action made next asked refl)

    -- a step that gives an item
    gives_shown : (js : List Job) (vs : List Seen) → StackWell app js vs → AllKept app s.time s.values js → (w : What)
        → item_given s js ≡ Some w → Shows (Stepped (Some w)) s.values (state_after_item app s js).values
    gives_shown [] vs stack order w is = absurd (none-some w is)
    gives_shown (job ∷ others) [] stack order w is = absurd stack
    gives_shown (job ∷ others) (seen ∷ seens) stack order w is =
        acts job.role job.priority stack.0.answered job.sections stack.0.base job others job.rest
        (stack.0.fine, order.0) w is

    silent_same : (js : List Job) → many (state_after_silence s js).values + 0 ≡ many s.values + 0
    silent_same [] = refl
    silent_same (job ∷ others) = refl

    -- the handling of an interrupt starts
    takes_same : (irq : ℕ) (o : Option Service) → service_at app irq ≡ o
        → many (state_after_start app (record s { pending = slice_set s.pending irq false }) irq o).values + 0
        ≡ many s.values + 0
    takes_same irq None at = refl
    takes_same irq (Some x) at = ap (λ c. length (messages c) + 0)
        (reached_same app (Serving irq) x.priority 0 [] (handler_doing app x.handler s.values) s.values
        (find_has (λ (x : Service). (n : ℕ) (vs : Values) → Queued app vs
        → IsFine app (Serving irq) x.priority n [] vs (handler_doing app x.handler vs)) _ (services app) x
        (services_fine app accepted irq) at 0 s.values queued) queue tt)

  module _ (accepted : IsAccepted app) where
    -- a label of a run
    pub next_shown : (s : State) (v : Observer) (label : Label) → StateWell app s v → May app s label
        → Shows label s.values (after app s label).values
    next_shown s v (Arrived irq) well may = refl
    next_shown s v Ticked well may = refl
    next_shown s v Rang well may = refl
    next_shown s v (Stepped None) well may = silent_same accepted s well.queued s.jobs
    next_shown s v (Stepped (Some (what.Take irq depth))) well may =
        takes_same accepted s well.queued irq (service_at app irq) refl
    next_shown s v (Stepped (Some w)) well may =
        gives_shown accepted s well.queued s.jobs v.jobs well.stack well.order w may.1

    -- so many are ready behind labels and words
    all_shown : (moves : List (WithWords Label)) (s : State) (v : Observer) → StateWell app s v → RunsBeside app s moves
        → many (after_moves app s moves).values + count_by (is_start_at app p) (things moves)
        ≡ many s.values + count_by (is_ready_at app p) (things moves)
    all_shown [] s v well runs = refl
    all_shown (Puts n word ∷ moves) s v well runs =
        all_shown moves (state_after_put n word s) v (put_well app s v n word well) runs.1
    all_shown (One label ∷ moves) s v well runs =
        let here = next_shown s v label well runs.0 in
        let behind = all_shown moves (after app s label) (sees app v label)
        (next_well app accepted s v label well runs.0) runs.1 in
        let started = sum_by-cons (λ l. one_if (is_start_at app p l)) label labels in
        let readied = sum_by-cons (λ l. one_if (is_ready_at app p l)) label labels in
        added (many s.values) (many (after app s label).values) (many last.values)
        (one_if (is_start_at app p label)) (one_if (is_ready_at app p label)) (count_by (is_start_at app p) labels)
        (count_by (is_ready_at app p) labels) here behind
        (ap (λ n. many last.values + n) started)
        (ap (λ n. many s.values + n) readied)
      where
        labels : List Label
        labels = things moves

        last : State
        last = after_moves app (after app s label) moves

        added : (a b c x y m n : ℕ) → b + x ≡ a + y → c + m ≡ b + n
            → c + count_by (is_start_at app p) (label ∷ labels) ≡ c + (x + m)
            → a + count_by (is_ready_at app p) (label ∷ labels) ≡ a + (y + n)
            → c + count_by (is_start_at app p) (label ∷ labels) ≡ a + count_by (is_ready_at app p) (label ∷ labels)
        added a b c x y m n here behind left right = omega arith

    none_first : many (first app).values ≡ 0
    none_first = ap (λ c. length (messages c))
        (reached_same app Init (2 ^ app.bits) 0 [] (init_doing app (first_values app)) (first_values app)
        (init_fine app accepted 0 (first_values app) (first_queued app)) queue tt)

    -- the law
    pub ready_counted : (moves : List (WithWords Label)) → RunsBeside app (first app) moves
        → ready_after app p (things moves) ≡ many (after_moves app (first app) moves).values
    ready_counted moves runs =
        let all = all_shown moves (first app) (first_sight app) (first_well app accepted) runs in
        let none = none_first in
        omega (arith, all, none)

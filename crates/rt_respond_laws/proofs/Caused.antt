-- Chains of jobs of a run: by the moment at which nothing is left of the handler that stands last on the paths between
-- two handlers, each job of a chain between them has been done.
use Rattle.std.proofs.Common.{◌≡◌, ℕ, zero, suc, ◌+◌, ◌≤◌, Bool, true, false}
use Rattle.std.proofs.Common.{if◌then◌else◌, count_by, List, [], ◌∷◌, ◌++◌, length, length-append}
use Rattle.std.proofs.Common.{slice_index_or, Some, refl, sym, ap, subst, ◌∙◌, arith, eq-eqb}
use Rattle.std.proofs.Common.{append_assoc}
use Rattle.std.specs.List.{AllByRecursion}
use Rattle.std.proofs.lemmas.List.Sums.{sum_by-append}
use Rattle.rt_lemmas.proofs.Bools.{true_and_false}
use Rattle.rt_ids.specs.Choice.{IsIn}
use Rattle.rt_actions.specs.Content.{Message}
use Rattle.rt_trace.specs.Label.{Label, Arrived, Stepped, steps_of}
use Rattle.rt_trace.specs.declared.item.What.TheVariants as what
use Rattle.rt_app.specs.Tree.{App}
use Rattle.rt_app.specs.Accepted.{IsAccepted}
use Rattle.rt_app.specs.Bodies.{task_priority}
use Rattle.rt_laws.specs.State.{Serving, Job, State, first}
use Rattle.rt_laws.specs.Allowed.{after}
use Rattle.rt_laws.specs.Run.{RunsOn}
use Rattle.rt_laws.specs.ByItems.{after_all}
use Rattle.rt_laws.specs.Observer.{Observer, sees}
use Rattle.rt_laws.specs.MessagesWaiting.{is_start_at, ready_after}
use Rattle.rt_laws.specs.Unspent.{NoneIsSpent}
use Rattle.rt_laws.specs.Waiting.{is_take}
use Rattle.rt_laws.proofs.ByItems.{after_append}
use Rattle.rt_laws.proofs.ItemCounts.{one_if}
use Rattle.rt_laws.proofs.Keeping.{next_well}
use Rattle.rt_laws.proofs.Waiting.{pending_stays}
use Rattle.rt_lemmas.proofs.Lists.{all_front}
use Rattle.rt_lemmas.proofs.Membership.{all_weaker}
use Rattle.rt_trace.proofs.LabelsShown.{steps_join}
use Rattle.rt_laws.proofs.Well.{StateWell}
use Rattle.rt_rta.specs.Kept.{Kept}
use Rattle.rt_respond.specs.Form.{is_of_form}
use Rattle.rt_respond.specs.Handlers.{handlers, handled_block}
use Rattle.rt_respond.specs.Limits.{Limits, AreLimits}
use Rattle.rt_respond.specs.Path.{releases, Leads, Here, Next, IsLowest}
use Rattle.rt_respond.specs.Response.{IsResponse}
use Rattle.rt_respond.specs.declared.response.Response.TheVariants as response
use Rattle.rt_respond.proofs.Order.{at_itself}
use Rattle.rt_respond_laws.specs.Laws.{RunsCauseWithin}
use Rattle.rt_respond_laws.specs.Moments.{IsRoleAt, NothingIsLeft, ComesToNothing}
use Rattle.rt_respond.specs.declared.handler.Handler.{Handler}
use Rattle.rt_respond_laws.specs.Coming.{depth_from, RunsBehind, release_of, Begins, Taken, Started, IsAskedFor}
use Rattle.rt_respond_laws.specs.Coming.{Itself, ByJob, IsDoneIn, Served, Run}
use Rattle.rt_respond_laws.specs.Served.{pend_of}
use Rattle.rt_respond_laws.specs.Started.{ready_of, RunIn, Dispatches}
use Rattle.rt_respond_laws.proofs.Sending.{Posting}
use Rattle.rt_respond_laws.proofs.Handled.{of_level}
use Rattle.rt_respond_laws.proofs.Turning.{ready}
use Rattle.rt_respond_laws.proofs.Turns.{other_request}
use Rattle.rt_respond_laws.proofs.TurnLaw.{runs_front}
use Rattle.rt_respond_laws.proofs.Serving.{served_at, set_behind}
use Rattle.rt_respond_laws.proofs.Responding.{comes_behind}
use Rattle.rt_respond_laws.proofs.Running.{still_there}
use Rattle.rt_respond_laws.proofs.Messages.{there, others, own_level, level, last_is, long_is}
use Rattle.rt_respond_laws.proofs.Messages.{run_in}
use Rattle.rt_respond_laws.proofs.Tracing.{StandsAt, StandsYet, track_all}
use Rattle.rt_respond_laws.proofs.Tracing.{asks_none, posts_none, agree_none, block_zero, depth_split}
use Rattle.rt_respond_laws.proofs.Chains.{less_left}
use Rattle.rt_respond_laws.proofs.Links.{Stands, stands, begun_stands, start_dispatched, link_releases}

-- a path goes on
snoc : (app : App) (g : Handler) → IsIn (handlers app) g → (a b : Handler) → Leads app a b → releases app b g ≡ true
    → Leads app a g
snoc app g g_in a b (Here k) holds = Next k g g g_in holds (Here g)
snoc app g g_in a b (Next h k j k_in first rest) holds = Next h k g k_in first (snoc app g g_in k j rest holds)

-- of two ways to part labels the first part of one goes on in the other
pub data Parts (xs ys before behind : List Label) : Type 0 where
  Longer : (more : List Label) → before ≡ xs ++ more → ys ≡ more ++ behind → Parts xs ys before behind
  Shorter : (label : Label) → (more : List Label) → xs ≡ before ++ label ∷ more → Parts xs ys before behind

head_same : (x y : Label) (xs ys : List Label) → x ∷ xs ≡ y ∷ ys → x ≡ y
head_same x y xs ys e = cc

tail_same : (x y : Label) (xs ys : List Label) → x ∷ xs ≡ y ∷ ys → xs ≡ ys
tail_same x y xs ys e = cc

compare : (xs before ys behind : List Label) → xs ++ ys ≡ before ++ behind → Parts xs ys before behind
compare [] before ys behind e = Longer before refl e
compare (x ∷ xs) [] ys behind e = Shorter x xs refl
compare (x ∷ xs) (b ∷ before) ys behind e =
    by (compare xs before ys behind (tail_same x b (xs ++ ys) (before ++ behind) e))
  where
    first : x ≡ b
    first = head_same x b (xs ++ ys) (before ++ behind) e

    by : Parts xs ys before behind → Parts (x ∷ xs) ys (b ∷ before) behind
    by (Longer more is rest) = Longer more (ap (λ l. l ∷ before) (sym first) ∙ ap (λ ls. x ∷ ls) is) rest
    by (Shorter label more is) = Shorter label more (ap (λ l. l ∷ xs) first ∙ ap (λ ls. b ∷ ls) is)

cancel : (xs ys zs : List Label) → xs ++ ys ≡ xs ++ zs → ys ≡ zs
cancel [] ys zs e = e
cancel (x ∷ xs) ys zs e = cancel xs ys zs (tail_same x x (xs ++ ys) (xs ++ zs) e)

-- a part that ends before the last label is a part of what comes before it
before_last : (xs before behind : List Label) (last label : Label)
    → xs ++ last ∷ [] ≡ before ++ label ∷ behind → (more : List Label) × (xs ≡ before ++ more)
before_last xs before behind last label e =
    by (compare before xs (label ∷ behind) (last ∷ []) (sym e))
  where
    by : Parts before (label ∷ behind) xs (last ∷ []) → (more : List Label) × (xs ≡ before ++ more)
    by (Longer more is rest) = (more, is)
    by (Shorter l more is) =
        let all = ap length e in
        let own = ap length is in
        let first = length-append xs (last ∷ []) in
        let second = length-append before (label ∷ behind) in
        let third = length-append xs (l ∷ more) in
        absurd (omega (arith, all, own, first, second, third))

-- labels that are no take of an interrupt leave it pending
pending_on : (app : App) → IsAccepted app → (irq : ℕ) → (labels : List Label) (s : State) (v : Observer)
    → StateWell app s v → RunsOn app s labels → AllByRecursion (λ label. is_take irq label ≡ false) labels
    → slice_index_or s.pending irq false ≡ true → slice_index_or (after_all app s labels).pending irq false ≡ true
pending_on app accepted irq [] s v well runs none set = set
pending_on app accepted irq (label ∷ labels) s v well runs none set =
    let well_then = next_well app accepted s v label well runs.0 in
    pending_on app accepted irq labels (after app s label) (sees app v label) well_then runs.1 none.1
    (ap (λ ps. slice_index_or ps irq false) (sym well_then.pending)
    ∙ pending_stays app irq v label
    (λ j d is same. true_and_false (is_take irq label) (ap (is_take irq) is ∙ eq-eqb j irq same) none.0)
    (ap (λ ps. slice_index_or ps irq false) well.pending ∙ set))

-- a job that stands somewhere is not gone
gone_not : (app : App) (posts : Posting) (irq : ℕ) (n : ℕ) (js : List Job) → StandsAt app posts irq n js
    → AllByRecursion (λ job. ¬ (job.role ≡ Serving irq)) js → ⊥
gone_not app posts irq n [] there none = there
gone_not app posts irq zero (job ∷ others) there none = none.0 there.0
gone_not app posts irq (suc n) (job ∷ others) there none = gone_not app posts irq n others there none.1

module _ (app : App) (accepted : IsAccepted app) (form : is_of_form app ≡ true) (limits : Limits)
    (fine : AreLimits app limits) (labels : List Label) (runs : RunsOn app (first app) labels)
    (kept : Kept limits.every labels) (unspent : NoneIsSpent app labels) (front total : List Label)
    (from to lowest : Handler) (steps : ℕ) (is : labels ≡ front ++ Arrived from.number ∷ total)
    (from_in : IsIn (handlers app) from) (lowest_is : IsLowest app from to lowest)
    (answer : IsResponse app limits.every lowest (response.Steps steps)) (enough : steps ≤ steps_of total) where
  abbrev asked : List Label
  asked = front ++ Arrived from.number ∷ []

  whole : labels ≡ asked ++ total
  whole = is ∙ sym (append_assoc front (Arrived from.number ∷ []) total)

  comes : ComesToNothing app lowest asked steps total
  comes = comes_behind app accepted form limits fine labels runs kept unspent front total (Arrived from.number) lowest
      steps is (kept.late front total from.number is) lowest.number
      (record { declared = lowest_is.on.declared; number = refl }) answer enough

  abbrev last : State
  last = after_all app (first app) (asked ++ comes.until)

  -- the request of a handler behind the first labels
  data Requested (h : Handler) (so_far : List Label) : Type 0 where
    ByPend : h.is_dispatcher ≡ false
        → slice_index_or (after_all app (first app) (asked ++ so_far)).pending h.number false ≡ true
        → Requested h so_far
    ByReady : (dispatches : Dispatches app h.task h) → (before : List Message) → (m : Message) → m.task ≡ h.task
        → ready app (task_priority app h.task) (after_all app (first app) (asked ++ so_far)).values ≡ before ++ m ∷ []
        → suc (length before) ≡ ready_after app (task_priority app h.task) (asked ++ so_far) → Requested h so_far

  record Stage (h : Handler) (so_far : List Label) : Type 0 where
    declared : IsIn (handlers app) h
    leads : Leads app from h
    rest : List Label
    until_is : comes.until ≡ so_far ++ rest
    requested : Requested h so_far

  -- nothing is left of a handler on the way
  quiet_of : (h : Handler) → IsIn (handlers app) h → Leads app from h → Leads app h to → NothingIsLeft app h last
  quiet_of h declared before behind =
      less_left app lowest h (lowest_is.last h (record { declared = declared; before = before; behind = behind })) last
      comes.nothing

  gone_of : (h : Handler) → IsIn (handlers app) h → NothingIsLeft app h last
      → AllByRecursion (λ job. ¬ (job.role ≡ Serving h.number)) last.jobs
  gone_of h declared nothing =
      all_weaker (λ job. ¬ IsRoleAt app h job.role) (λ job. ¬ (job.role ≡ Serving h.number))
      (λ job none role. none (subst (IsRoleAt app h) (sym role) (record {
        handler = h;
        serves = record { declared = declared; number = refl };
        at = at_itself h;
      }))) last.jobs nothing.jobs

  abbrev dispatches_of : (h : Handler) → IsIn (handlers app) h → h.is_dispatcher ≡ true → Dispatches app h.task h
  dispatches_of h declared dispatches = record { declared = declared; runs = refl; is_dispatcher = dispatches }

  -- a release requests its handler
  requests : (g : Handler) → IsIn (handlers app) g → (so_far tail : List Label)
      → total ≡ (so_far ++ release_of g ∷ []) ++ tail → Requested g (so_far ++ release_of g ∷ [])
  requests g declared so_far tail parts = by g.is_dispatcher refl
    where
      all : labels ≡ (asked ++ so_far) ++ release_of g ∷ tail
      all = whole ∙ ap (λ xs. asked ++ xs) (parts ∙ append_assoc so_far (release_of g ∷ []) tail)
          ∙ sym (append_assoc asked so_far (release_of g ∷ tail))

      moved : (label : Label) → asked ++ (so_far ++ label ∷ []) ≡ (asked ++ so_far) ++ label ∷ []
      moved label = sym (append_assoc asked so_far (label ∷ []))

      by : (b : Bool) → g.is_dispatcher ≡ b → Requested g (so_far ++ release_of g ∷ [])
      by false wired =
          let is_pend : release_of g ≡ pend_of g.number =
          ap (λ d. if d then ready_of g.task else pend_of g.number) wired in
          ByPend wired
          (ap (λ (x : State). slice_index_or x.pending g.number false)
          (ap (after_all app (first app)) (moved (release_of g) ∙ ap (λ l. (asked ++ so_far) ++ l ∷ []) is_pend))
          ∙ set_behind app accepted form g g.number (record { declared = declared; number = refl }) labels
          (asked ++ so_far) tail (pend_of g.number) (all ∙ ap (λ l. (asked ++ so_far) ++ l ∷ tail) is_pend) runs
          (λ v. refl))
      by true dispatches =
          let is_ready : release_of g ≡ ready_of g.task =
          ap (λ d. if d then ready_of g.task else pend_of g.number) dispatches in
          let own = dispatches_of g declared dispatches in
          let all_ready : labels ≡ ((asked ++ so_far) ++ ready_of g.task ∷ []) ++ tail =
          all ∙ ap (λ l. (asked ++ so_far) ++ l ∷ tail) is_ready
          ∙ sym (append_assoc (asked ++ so_far) (ready_of g.task ∷ []) tail) in
          let last_one = last_is app accepted form limits fine labels runs kept unspent g.task g own (asked ++ so_far)
          tail
          all_ready in
          let same : asked ++ (so_far ++ release_of g ∷ []) ≡ (asked ++ so_far) ++ ready_of g.task ∷ [] =
          moved (release_of g) ∙ ap (λ l. (asked ++ so_far) ++ l ∷ []) is_ready in
          ByReady own last_one.before last_one.message last_one.of_task
          (ap (λ xs. ready app (task_priority app g.task) (after_all app (first app) xs).values) same ∙ last_one.is)
          (long_is app accepted form limits fine labels runs kept unspent g.task g own (asked ++ so_far) tail all_ready
          last_one
          ∙ ap (ready_after app (task_priority app g.task)) (sym same))

  -- a stage, and what comes behind it until the quiet moment
  until_all : (h : Handler) (so_far : List Label) (stage : Stage h so_far)
      → labels ≡ (asked ++ so_far) ++ (stage.rest ++ comes.behind)
  until_all h so_far stage =
      whole ∙ ap (λ xs. asked ++ xs) (comes.parts ∙ ap (λ xs. xs ++ comes.behind) stage.until_is
      ∙ append_assoc so_far stage.rest comes.behind) ∙ sym (append_assoc asked so_far (stage.rest ++ comes.behind))

  last_is_behind : (h : Handler) (so_far : List Label) (stage : Stage h so_far)
      → last ≡ after_all app (after_all app (first app) (asked ++ so_far)) stage.rest
  last_is_behind h so_far stage =
      ap (λ xs. after_all app (first app) (asked ++ xs)) stage.until_is
      ∙ ap (after_all app (first app)) (sym (append_assoc asked so_far stage.rest))
      ∙ after_append app (asked ++ so_far) stage.rest (first app)

  not_empty : (xs : List Message) (m : Message) (ys : List Message) → xs ++ m ∷ ys ≡ [] → ⊥
  not_empty [] m ys e = cc
  not_empty (x ∷ xs) m ys e = cc

  -- the job of a request has begun by the quiet moment
  has_begun : (h : Handler) (so_far : List Label) (stage : Stage h so_far) → NothingIsLeft app h last → (n : ℕ)
      (begin : List Label) → Begins app h n begin → n ≡ ready_after app h.priority (asked ++ so_far)
      → (tail : List Label) → total ≡ so_far ++ (begin ++ tail)
      → (label : Label) (more : List Label) → begin ≡ stage.rest ++ label ∷ more → ⊥
  has_begun h so_far stage nothing n begin (Taken k depth waiting wired none) same tail all label more parts =
      by stage.requested
    where
      at : Stands app accepted form limits fine labels runs kept unspent (asked ++ so_far) (stage.rest ++ comes.behind)
      at = stands app accepted form limits fine labels runs kept unspent (asked ++ so_far) (stage.rest ++ comes.behind)
          (until_all h so_far stage)

      no_take : AllByRecursion (λ label. is_take h.number label ≡ false) stage.rest
      no_take =
          let within = before_last waiting stage.rest more (Stepped (Some (what.Take h.number depth))) label parts in
          all_front (λ label. is_take h.number label ≡ false) stage.rest within.0
          (subst (AllByRecursion (λ label. is_take h.number label ≡ false)) within.1 none)

      by : Requested h so_far → ⊥
      by (ByReady dispatches before m of_task waits long) =
          true_and_false h.is_dispatcher dispatches.is_dispatcher wired
      by (ByPend wires set) =
          true_and_false (slice_index_or last.pending h.number false)
          (ap (λ (x : State). slice_index_or x.pending h.number false) (last_is_behind h so_far stage)
          ∙ pending_on app accepted h.number stage.rest (after_all app (first app) (asked ++ so_far)) at.seen at.well
          (runs_front app stage.rest comes.behind (after_all app (first app) (asked ++ so_far)) at.runs_on) no_take set)
          (nothing.pending h.number (record {
            handler = h;
            serves = record { declared = stage.declared; number = refl };
            at = at_itself h;
          }))
  has_begun h so_far stage nothing n begin (Started waiting args) same tail all label more parts =
      by stage.requested
    where
      within : (d : List Label) × (waiting ≡ stage.rest ++ d)
      within = before_last waiting stage.rest more (Stepped (Some (what.Start h.task args))) label parts

      start_parts : labels ≡ ((asked ++ so_far) ++ waiting) ++ Stepped (Some (what.Start h.task args)) ∷ tail
      start_parts =
          whole ∙ ap (λ xs. asked ++ xs) (all ∙ ap (λ xs. so_far ++ xs)
          (append_assoc waiting (Stepped (Some (what.Start h.task args)) ∷ []) tail))
          ∙ sym (append_assoc asked so_far (waiting ++ Stepped (Some (what.Start h.task args)) ∷ tail))
          ∙ sym (append_assoc (asked ++ so_far) waiting (Stepped (Some (what.Start h.task args)) ∷ tail))

      by : Requested h so_far → ⊥
      by (ByPend wires set) =
          true_and_false h.is_dispatcher
          (start_dispatched app accepted form limits fine labels runs kept unspent h stage.declared args
          ((asked ++ so_far) ++ waiting) tail start_parts) wires
      by (ByReady dispatches before m of_task waits long) =
          let p = task_priority app h.task in
          let known = level app accepted form limits fine labels runs kept unspent h.task h dispatches in
          let at = there app accepted form limits fine labels runs kept unspent h.task h dispatches (asked ++ so_far)
          (stage.rest ++ comes.behind) (until_all h so_far stage) in
          let own = own_level app accepted form limits fine labels runs kept unspent h.task h dispatches in
          let turn_is = subst (λ q. suc (count_by (is_start_at app q) waiting) ≡ ready_after app q (asked ++ so_far))
          own
          same in
          let split = ap (count_by (is_start_at app (task_priority app h.task))) within.1
          ∙ sum_by-append (λ l. one_if (is_start_at app (task_priority app h.task) l)) stage.rest within.0 in
          let still = still_there app accepted form (task_priority app h.task) known stage.rest
          (after_all app (first app) (asked ++ so_far)) at.seen at.well at.live
          (runs_front app stage.rest comes.behind (after_all app (first app) (asked ++ so_far)) at.runs_on)
          (others app accepted form limits fine labels runs kept unspent h.task h dispatches (asked ++ so_far)
          comes.behind
          stage.rest (until_all h so_far stage)) before [] m (omega (arith, turn_is, split, long)) waits in
          let empty = subst (λ q. ready app q last.values ≡ []) own
          (nothing.ready h stage.declared dispatches.is_dispatcher (at_itself h)) in
          not_empty still.before m still.after_it
          (sym still.is ∙ ap (λ (x : State). ready app (task_priority app h.task) x.values)
          (sym (last_is_behind h so_far stage)) ∙ empty)

  -- the job goes on until it asks for the next before the quiet moment
  module _ (h g : Handler) (so_far : List Label) (stage : Stage h so_far) (h_to : Leads app h to)
      (g_in : IsIn (handlers app) g) (n : ℕ) (begin running_by tail : List Label) (begins : Begins app h n begin)
      (n_is : n ≡ ready_after app h.priority (asked ++ so_far)) (still : RunsBehind running_by)
      (parts : total ≡ so_far ++ (begin ++ (running_by ++ release_of g ∷ tail)))
      (releases_it : releases app h g ≡ true) where
    nothing : NothingIsLeft app h last
    nothing = quiet_of h stage.declared stage.leads h_to

    abbrev link : List Label
    link = begin ++ (running_by ++ release_of g ∷ [])

    link_tail : begin ++ (running_by ++ release_of g ∷ tail) ≡ link ++ tail
    link_tail =
        ap (λ xs. begin ++ xs) (sym (append_assoc running_by (release_of g ∷ []) tail))
        ∙ sym (append_assoc begin (running_by ++ release_of g ∷ []) tail)

    two_ways : link ++ tail ≡ stage.rest ++ comes.behind
    two_ways = cancel so_far (link ++ tail) (stage.rest ++ comes.behind)
        (ap (λ xs. so_far ++ xs) (sym link_tail) ∙ sym parts ∙ comes.parts ∙ ap (λ xs. xs ++ comes.behind)
        stage.until_is
        ∙ append_assoc so_far stage.rest comes.behind)

    -- where the quiet moment comes behind the job's beginning and before its release, the job stands at it
    stands_still : (c d : List Label) → stage.rest ≡ begin ++ c → running_by ≡ c ++ d → ⊥
    stands_still c d rest_is running_is =
        let depth = depth_split app accepted form posts_none h.number c d 0 (Some 0)
        (subst (λ ls. depth_from (Some 0) ls ≡ Some 0) running_is still) in
        let began = begun_stands app accepted form limits fine labels runs kept unspent asks_none posts_none
        (agree_none app accepted form) h stage.declared (block_zero (handled_block app h)) n begin begins
        (start_dispatched app accepted form limits fine labels runs kept unspent h stage.declared) (asked ++ so_far)
        (c ++ comes.behind) all in
        let at = stands app accepted form limits fine labels runs kept unspent ((asked ++ so_far) ++ begin)
        (c ++ comes.behind) (all ∙ sym (append_assoc (asked ++ so_far) begin (c ++ comes.behind))) in
        let tracked = track_all app accepted form posts_none h.number c
        (after_all app (first app) ((asked ++ so_far) ++ begin)) at.seen at.well at.silent
        (runs_front app c comes.behind (after_all app (first app) ((asked ++ so_far) ++ begin)) at.runs_on) (Some 0)
        began
        in
        gone_not app posts_none h.number depth.0 last.jobs
        (subst (λ (x : State). StandsAt app posts_none h.number depth.0 x.jobs) (sym state_is)
        (subst (λ o. StandsYet app posts_none h.number o
        (after_all app (after_all app (first app) ((asked ++ so_far) ++ begin)) c).jobs) depth.1 tracked))
        (gone_of h stage.declared nothing)
      where
        all : labels ≡ (asked ++ so_far) ++ (begin ++ (c ++ comes.behind))
        all = until_all h so_far stage ∙ ap (λ xs. (asked ++ so_far) ++ (xs ++ comes.behind)) rest_is
            ∙ ap (λ xs. (asked ++ so_far) ++ xs) (append_assoc begin c comes.behind)

        state_is : last ≡ after_all app (after_all app (first app) ((asked ++ so_far) ++ begin)) c
        state_is =
            ap (λ xs. after_all app (first app) (asked ++ xs)) (stage.until_is ∙ ap (λ xs. so_far ++ xs) rest_is)
            ∙ ap (after_all app (first app)) (sym (append_assoc asked so_far (begin ++ c))
            ∙ sym (append_assoc (asked ++ so_far) begin c))
            ∙ after_append app ((asked ++ so_far) ++ begin) c (first app)

    next_stage : Stage g (so_far ++ link)
    next_stage = by (compare link stage.rest tail comes.behind two_ways)
      where
        requested : Requested g (so_far ++ link)
        requested =
            subst (Requested g) moved
            (requests g g_in (so_far ++ (begin ++ running_by)) tail (parts ∙ ap (λ xs. so_far ++ xs) link_tail
            ∙ sym (append_assoc so_far link tail) ∙ ap (λ xs. xs ++ tail) (sym moved)))
          where
            moved : (so_far ++ (begin ++ running_by)) ++ release_of g ∷ [] ≡ so_far ++ link
            moved = append_assoc so_far (begin ++ running_by) (release_of g ∷ [])
                ∙ ap (λ xs. so_far ++ xs) (append_assoc begin running_by (release_of g ∷ []))

        by : Parts link tail stage.rest comes.behind → Stage g (so_far ++ link)
        by (Longer more rest_is tail_is) = record {
          declared = g_in;
          leads = snoc app g g_in from h stage.leads releases_it;
          rest = more;
          until_is = stage.until_is ∙ ap (λ xs. so_far ++ xs) rest_is ∙ sym (append_assoc so_far link more);
          requested = requested;
        }
        by (Shorter label more is) =
            absurd (by_begin (compare begin stage.rest (running_by ++ release_of g ∷ []) (label ∷ more) is))
          where
            by_begin : Parts begin (running_by ++ release_of g ∷ []) stage.rest (label ∷ more) → ⊥
            by_begin (Shorter l c begin_is) =
                has_begun h so_far stage nothing n begin begins n_is (running_by ++ release_of g ∷ tail) parts l c
                begin_is
            by_begin (Longer c rest_is run_is) =
                let within = before_last running_by c more (release_of g) label run_is in
                stands_still c within.0 rest_is within.1

  begin_parts : (so_far begin running_by : List Label) (g : Handler) (tail : List Label)
      → (so_far ++ (begin ++ (running_by ++ release_of g ∷ []))) ++ tail
      ≡ so_far ++ (begin ++ (running_by ++ release_of g ∷ tail))
  begin_parts so_far begin running_by g tail =
      append_assoc so_far (begin ++ (running_by ++ release_of g ∷ [])) tail
      ∙ ap (λ xs. so_far ++ xs) (append_assoc begin (running_by ++ release_of g ∷ []) tail
      ∙ ap (λ xs. begin ++ xs) (append_assoc running_by (release_of g ∷ []) tail))

  -- the chain
  chain_releases : (h g : Handler) (so_far begin running_by tail : List Label) (n : ℕ) → IsIn (handlers app) h
      → IsIn (handlers app) g → Begins app h n begin → RunsBehind running_by
      → total ≡ so_far ++ (begin ++ (running_by ++ release_of g ∷ tail)) → releases app h g ≡ true
  chain_releases h g so_far begin running_by tail n h_in g_in begins still parts =
      link_releases app accepted form limits fine labels runs kept unspent h g h_in g_in n begin begins running_by still
      (asked ++ so_far) tail
      (whole ∙ ap (λ xs. asked ++ xs) parts
      ∙ sym (append_assoc asked so_far (begin ++ (running_by ++ release_of g ∷ tail))))

  asked_in : (so_far : List Label) (h : Handler) → IsAskedFor app asked from so_far h → IsIn (handlers app) h
  asked_in so_far h Itself = from_in
  asked_in so_far h (ByJob before waiting running_by k g prev begins g_in still) = g_in

  from_wired : from.is_dispatcher ≡ false
  from_wired = by from.is_dispatcher refl
    where
      by : (b : Bool) → from.is_dispatcher ≡ b → b ≡ false
      by false kind = refl
      by true kind =
          let own = of_level app accepted from from_in kind in
          absurd (other_request app accepted form from.priority own.known limits.every fine.every from.number
          (kept.limited front total from.number is) (sym own.number))

  chain : (so_far : List Label) (h : Handler) → IsAskedFor app asked from so_far h → (tail : List Label)
      → total ≡ so_far ++ tail → Leads app h to → Stage h so_far
  chain so_far h Itself tail parts h_to = record {
    declared = from_in;
    leads = Here from;
    rest = comes.until;
    until_is = refl;
    requested = ByPend from_wired
        (ap (λ xs. slice_index_or (after_all app (first app) xs).pending from.number false) (append_none asked)
        ∙ set_behind app accepted form from from.number (record { declared = from_in; number = refl }) labels front
        total
        (Arrived from.number) is runs (λ v. refl));
  }
    where
      append_none : (xs : List Label) → xs ++ [] ≡ xs
      append_none [] = refl
      append_none (x ∷ xs) = ap (λ ys. x ∷ ys) (append_none xs)
  chain so_far g (ByJob before begin running_by h k prev begins g_in still) tail parts g_to =
      let h_in = asked_in before h prev in
      let all = parts ∙ begin_parts before begin running_by k tail in
      let holds = chain_releases h k before begin running_by tail (ready_after app h.priority (asked ++ before)) h_in
      g_in
      begins still all in
      let h_to : Leads app h to = Next h k to g_in holds g_to in
      let stage = chain before h prev (begin ++ (running_by ++ release_of k ∷ tail)) all h_to in
      next_stage h k before stage h_to g_in (ready_after app h.priority (asked ++ before)) begin running_by tail begins
      refl still all holds

  pub done_in : (so_far behind : List Label) → total ≡ so_far ++ behind → IsAskedFor app asked from so_far to
      → (left : ℕ) × (steps_of so_far + left ≤ steps) × IsDoneIn app to (asked ++ so_far) left behind
  done_in so_far behind parts asks =
      let stage = chain so_far to asks behind parts (Here to) in
      let count = ap steps_of stage.until_is ∙ steps_join so_far stage.rest in
      let time = comes.in_time in
      (steps_of stage.rest, omega (arith, count, time), by stage stage.requested)
    where
      by : (stage : Stage to so_far) → Requested to so_far
          → IsDoneIn app to (asked ++ so_far) (steps_of stage.rest) behind
      by stage = served
        where
          all : labels ≡ (asked ++ so_far) ++ behind
          all = whole ∙ ap (λ xs. asked ++ xs) parts ∙ sym (append_assoc asked so_far behind)

          to_nothing : ComesToNothing app to (asked ++ so_far) (steps_of stage.rest) behind
          to_nothing = record {
            until = stage.rest;
            behind = comes.behind;
            parts = cancel so_far behind (stage.rest ++ comes.behind)
                (sym parts ∙ comes.parts ∙ ap (λ xs. xs ++ comes.behind) stage.until_is
                ∙ append_assoc so_far stage.rest comes.behind);
            in_time = omega arith;
            nothing = subst (NothingIsLeft app to) (ap (after_all app (first app))
                (ap (λ xs. asked ++ xs) stage.until_is ∙ sym (append_assoc asked so_far stage.rest)))
                (quiet_of to stage.declared stage.leads (Here to));
          }

          served : Requested to so_far → IsDoneIn app to (asked ++ so_far) (steps_of stage.rest) behind
          served (ByPend wired set) =
              Served wired
              (served_at app accepted form to to.number (record { declared = stage.declared; number = refl }) labels
              (asked ++ so_far) behind (steps_of stage.rest) all runs set to_nothing)
          served (ByReady dispatches before m of_task waits long) =
              let own = own_level app accepted form limits fine labels runs kept unspent to.task to dispatches in
              Run (subst (λ n. RunIn app to.task n (steps_of stage.rest) behind)
              (long ∙ ap (λ q. ready_after app q (asked ++ so_far)) (sym own))
              (run_in app accepted form limits fine labels runs kept unspent to.task to dispatches (asked ++ so_far)
              behind (steps_of stage.rest) all to_nothing before [] m of_task waits))

pub runs_cause_within : RunsCauseWithin
runs_cause_within app accepted form limits fine labels runs kept unspent front so_far behind from to lowest steps is
    from_in asks lowest_is answer enough =
    let done = done_in app accepted form limits fine labels runs kept unspent front (so_far ++ behind) from to lowest
    steps
    is from_in lowest_is answer enough so_far behind refl asks in (
      done.0,
      done.1,
      subst (λ xs. IsDoneIn app to xs done.0 behind)
          (append_assoc front (Arrived from.number ∷ []) so_far) done.2,
    )

-- Each request is served within the response time of its interrupt's own handler; and where none may find its interrupt
-- pending, none does.
use Rattle.std.proofs.Common.{◌≡◌, ℕ, ◌≤◌, ◌⊎◌, inl, inr, Bool, true, false, nat_le}
use Rattle.std.proofs.Common.{if◌then◌else◌, List, [], ◌∷◌, ◌++◌, Contains, length, slice_set, slice_index_or}
use Rattle.std.proofs.Common.{Option, Some, None, refl, sym, ap, subst, ◌∙◌, arith, append_assoc, take_all}
use Rattle.std.specs.List.{AllByRecursion}
use Rattle.std.proofs.lemmas.Bool.{cases_lt, leb-true, cases_eq}
use Rattle.std.proofs.lemmas.List.{take-append-le}
use Rattle.rt_lemmas.proofs.Lists.{all_behind}
use Rattle.rt_ids.specs.declared.limits.TheConstants.{IRQ_NUMBERS}
use Rattle.rt_trace.specs.Label.{Label, Arrived, Ticked, Rang, Stepped, steps_of}
use Rattle.rt_app.specs.Tree.{App}
use Rattle.rt_app.specs.Accepted.{IsAccepted}
use Rattle.rt_app.specs.Handlers.{irq_number}
use Rattle.rt_laws.specs.State.{State, first}
use Rattle.rt_laws.specs.Allowed.{after}
use Rattle.rt_laws.specs.Run.{RunsOn}
use Rattle.rt_laws.specs.ByItems.{after_all}
use Rattle.rt_laws.specs.Observer.{Observer, first_sight, sees, sees_all}
use Rattle.rt_laws.specs.Unspent.{AreUnspent, NoneIsSpent}
use Rattle.rt_laws.specs.Waiting.{is_pending}
use Rattle.rt_laws.proofs.ByItems.{after_append}
use Rattle.rt_laws.proofs.Happens.{first_well}
use Rattle.rt_rta.specs.Kept.{end_of_init, Kept, InitEnds}
use Rattle.rt_rta.specs.declared.limits.Limit.{Limit}
use Rattle.rt_rta.proofs.Beginning.{next_well}
use Rattle.rt_laws.proofs.Well.{StateWell}
use Rattle.rt_respond.specs.Form.{is_of_form}
use Rattle.rt_respond.specs.Limits.{Limits, AreLimits, every_of}
use Rattle.rt_respond.specs.Pends.{is_pended}
use Rattle.rt_respond.specs.Report.{is_within, outer_requests, requests_of}
use Rattle.rt_respond.specs.Response.{IsResponse}
use Rattle.rt_respond.specs.declared.handler.Handler.{Handler}
use Rattle.rt_respond.specs.declared.report.Requests.TheVariants as requests
use Rattle.rt_respond.specs.declared.response.Response.{Response}
use Rattle.rt_respond.specs.declared.response.Response.TheVariants as response
use Rattle.rt_respond_laws.specs.Moments.{Serves, ComesToNothing}
use Rattle.rt_respond_laws.specs.Served.{pend_of, IsServedWithin}
use Rattle.rt_respond_laws.specs.Laws.{RunsRespondEach}
use Rattle.rt_respond_laws.proofs.Asking.{number_of}
use Rattle.rt_respond_laws.proofs.Stretch.{bounded}
use Rattle.rt_rta.proofs.Spacing.{none_set}
use Rattle.rt_respond_laws.proofs.Early.{pended_until}
use Rattle.rt_respond_laws.proofs.Coming.{runs_come_to_nothing}
use Rattle.rt_respond_laws.proofs.Serving.{first_end_in, reach, small, itself, served_at, set_behind}
use Rattle.rt_respond_laws.proofs.TurnLaw.{runs_front}
use Rattle.rt_respond_laws.proofs.Tasks.{not_bound}
use Rattle.rt_respond_laws.proofs.Handled.{handler_of_task, binds_own}
use Rattle.rt_app.specs.Level.{levels}
use Rattle.rt_app.specs.Sending.{dispatcher_number}
use Rattle.rt_respond_laws.proofs.Unpended.{Unposted, calm_first, stays_unposted, stays_clear}

-- the front of a run keeps the limits as well
kept_front : (limits : List Limit) (front behind : List Label) → Kept limits (front ++ behind) → Kept limits front
kept_front limits front behind kept = record {
  late = λ before rest irq is.
      kept.late before (rest ++ behind) irq
      (ap (λ xs. xs ++ behind) is ∙ append_assoc before (Arrived irq ∷ rest) behind);
  apart = λ before between rest irq every row is.
      kept.apart before between (rest ++ behind) irq every row
      (ap (λ xs. xs ++ behind) is ∙ append_assoc before (Arrived irq ∷ (between ++ Arrived irq ∷ rest)) behind
      ∙ ap (λ xs. before ++ Arrived irq ∷ xs) (append_assoc between (Arrived irq ∷ rest) behind));
  limited = λ before rest irq is.
      kept.limited before (rest ++ behind) irq
      (ap (λ xs. xs ++ behind) is ∙ append_assoc before (Arrived irq ∷ rest) behind);
}

unspent_front : (app : App) (front behind : List Label) → NoneIsSpent app (front ++ behind) → NoneIsSpent app front
unspent_front app front behind unspent n = elim (cases_lt (length front) n) [
  | inl past ↦ (let all : length front ≤ n = omega (arith, past) in
      subst (λ xs. AreUnspent (after_all app (first app) xs).jobs)
      (take-append-le (length front) front behind (omega arith) ∙ take_all (length front) front (omega arith)
      ∙ sym (take_all n front all))
      (unspent (length front)))
  | inr within ↦
      subst (λ xs. AreUnspent (after_all app (first app) xs).jobs) (take-append-le n front behind within) (unspent n)
]

-- a label that is no request of this interrupt
is_other : (irq : ℕ) (label : Label) → (label ≡ Arrived irq) ⊎ (¬ (label ≡ Arrived irq))
is_other irq (Arrived k) = elim (cases_eq k irq) [
  | inl same ↦ inl (ap Arrived same)
  | inr differs ↦ inr (λ same. differs (arrived_same k irq same))
]
  where
    arrived_same : (a b : ℕ) → Arrived a ≡ Arrived b → a ≡ b
    arrived_same a b same = cc
is_other irq Ticked = inr (λ same. cc)
is_other irq Rang = inr (λ same. cc)
is_other irq (Stepped shown) = inr (λ same. cc)

abbrev HasNone : ℕ → List Label → Type 0
HasNone irq labels = AllByRecursion (λ label. ¬ (label ≡ Arrived irq)) labels

-- the last request of an interrupt in labels
last_request : (irq : ℕ) (labels : List Label) → HasNone irq labels
    ⊎ ((front : List Label) × (behind : List Label) × (labels ≡ front ++ Arrived irq ∷ behind) × HasNone irq behind)
last_request irq [] = inl tt
last_request irq (label ∷ labels) = elim (last_request irq labels) [
  | inr there ↦ inr (label ∷ there.0, there.1, ap (λ xs. label ∷ xs) there.2, there.3)
  | inl none ↦ elim (is_other irq label) [
    | inl same ↦ inr ([], labels, ap (λ l. l ∷ labels) same, none)
    | inr other ↦ inl (other, none)
  ]
]

module _ (app : App) (accepted : IsAccepted app) (form : is_of_form app ≡ true) (limits : Limits)
    (fine : AreLimits app limits) (labels : List Label) (runs : RunsOn app (first app) labels)
    (kept : Kept limits.every labels) (unspent : NoneIsSpent app labels) where
  -- behind a label of a run at which `init` has ended
  pub comes_behind : (front behind : List Label) (label : Label) (h : Handler) (steps : ℕ)
      → labels ≡ front ++ label ∷ behind → Contains front end_of_init → (irq : ℕ) → Serves app irq h
      → IsResponse app limits.every h (response.Steps steps) → steps ≤ steps_of behind
      → ComesToNothing app h (front ++ label ∷ []) steps behind
  comes_behind front behind label h steps is there irq serves answer enough =
      let ends = first_end_in front there in
      let during = ends.0 in
      let between = ends.1 in
      subst (λ xs. ComesToNothing app h xs steps behind)
      (sym (append_assoc during (end_of_init ∷ between) (label ∷ [])) ∙ ap (λ xs. xs ++ label ∷ []) (sym ends.2.parts))
      (runs_come_to_nothing app accepted form limits fine labels runs kept unspent h serves.declared steps answer during
      (between ++ label ∷ []) behind
      (record {
        parts = is ∙ ap (λ xs. xs ++ label ∷ behind) ends.2.parts
            ∙ append_assoc during (end_of_init ∷ between) (label ∷ behind)
            ∙ ap (λ xs. during ++ end_of_init ∷ xs) (sym (append_assoc between (label ∷ []) behind));
        first_end = ends.2.first_end;
      }) enough)

  -- a label that makes the interrupt pending
  request_served : (front behind : List Label) (label : Label) (irq : ℕ) → labels ≡ front ++ label ∷ behind
      → Contains front end_of_init → ((v : Observer) → (sees app v label).pending ≡ slice_set v.pending irq true)
      → IsServedWithin app limits irq behind
  request_served front behind label irq is there sets h steps serves answer enough =
      served_at app accepted form h irq serves labels (front ++ label ∷ []) behind steps
      (is ∙ sym (append_assoc front (label ∷ []) behind)) runs
      (set_behind app accepted form h irq serves labels front behind label is runs sets)
      (comes_behind front behind label h steps is there irq serves answer enough)

  pub arrivals_served : (front behind : List Label) (irq : ℕ) → labels ≡ front ++ Arrived irq ∷ behind
      → IsServedWithin app limits irq behind
  arrivals_served front behind irq is =
      request_served front behind (Arrived irq) irq is (kept.late front behind irq is) (λ v. refl)

  pub pends_served : (front behind : List Label) (irq : ℕ) → labels ≡ front ++ pend_of irq ∷ behind
      → Contains front end_of_init → IsServedWithin app limits irq behind
  pends_served front behind irq is there = request_served front behind (pend_of irq) irq is there (λ v. refl)

  -- what `init` pends
  pub early_served : (during behind : List Label) (irq : ℕ) → InitEnds labels during behind
      → Contains during (pend_of irq) → IsServedWithin app limits irq behind
  early_served during behind irq ends there h steps serves answer enough =
      served_at app accepted form h irq serves labels (during ++ end_of_init ∷ []) behind steps
      (ends.parts ∙ sym (append_assoc during (end_of_init ∷ []) behind)) runs
      (pended_until app accepted form limits.every fine.every h serves.declared steps
      (bounded app limits.every h steps answer.0 answer.1) labels during behind runs kept unspent ends.parts
      ends.first_end irq (small app accepted form h irq serves) there)
      (runs_come_to_nothing app accepted form limits fine labels runs kept unspent h serves.declared steps answer during
      [] behind ends enough)

-- where the report says neither `never` nor `merge`
pub record IsApart (app : App) (limits : Limits) (h : Handler) (answer : Response) : Type 0 where
  pub wires_it : h.is_dispatcher ≡ false
  pub unpended : is_pended app h.irq ≡ false
  pub every : ℕ
  pub every_is : every_of limits h.number ≡ Some every
  pub steps : ℕ
  pub answer_is : answer ≡ response.Steps steps
  pub within : steps ≤ every

apart_of : (app : App) (limits : Limits) (h : Handler) (answer : Response)
    → requests_of app limits h answer ≡ requests.Apart → IsApart app limits h answer
apart_of app limits h answer is = by_kind h.is_dispatcher refl is
  where
    by_answer : (wires_it : h.is_dispatcher ≡ false) (unpended : is_pended app h.irq ≡ false) (every : ℕ) → every_of
        limits h.number ≡ Some every
        → (r : Response) → answer ≡ r
        → (if is_within every r then requests.Apart else requests.Merge) ≡ requests.Apart → IsApart app limits h answer
    by_answer wires_it unpended every row (response.Steps n) same apart = by (nat_le n every) refl apart
      where
        by : (b : Bool) → nat_le n every ≡ b
            → (if b then requests.Apart else requests.Merge) ≡ requests.Apart → IsApart app limits h answer
        by true test holds = record {
          wires_it = wires_it;
          unpended = unpended;
          every = every;
          every_is = row;
          steps = n;
          answer_is = same;
          within = leb-true n every test;
        }
        by false test holds = absurd (merge_not holds)
          where
            merge_not : requests.Merge ≡ requests.Apart → ⊥
            merge_not e = cc
    by_answer wires_it unpended every row response.Cycle same apart = absurd (merge_not apart)
      where
        merge_not : requests.Merge ≡ requests.Apart → ⊥
        merge_not e = cc
    by_answer wires_it unpended every row response.Over same apart = absurd (merge_not apart)
      where
        merge_not : requests.Merge ≡ requests.Apart → ⊥
        merge_not e = cc

    by_every : (wires_it : h.is_dispatcher ≡ false) (unpended : is_pended app h.irq ≡ false) (o : Option ℕ) → every_of
        limits h.number ≡ o
        → outer_requests o answer ≡ requests.Apart → IsApart app limits h answer
    by_every wires_it unpended None row apart = absurd (never_not apart)
      where
        never_not : requests.Never ≡ requests.Apart → ⊥
        never_not e = cc
    by_every wires_it unpended (Some every) row apart = by_answer wires_it unpended every row answer refl apart

    by_pended : (wires_it : h.is_dispatcher ≡ false) (b : Bool) → is_pended app h.irq ≡ b
        → (if b then requests.Merge else outer_requests (every_of limits h.number) answer) ≡ requests.Apart
        → IsApart app limits h answer
    by_pended wires_it true pended apart = absurd (merge_not apart)
      where
        merge_not : requests.Merge ≡ requests.Apart → ⊥
        merge_not e = cc
    by_pended wires_it false unpended apart = by_every wires_it unpended (every_of limits h.number) refl apart

    by_kind : (b : Bool) → h.is_dispatcher ≡ b
        → (if b then requests.Messages else if is_pended app h.irq then requests.Merge
        else outer_requests (every_of limits h.number) answer) ≡ requests.Apart → IsApart app limits h answer
    by_kind true dispatches apart = absurd (messages_not apart)
      where
        messages_not : requests.Messages ≡ requests.Apart → ⊥
        messages_not e = cc
    by_kind false wires_it apart = by_pended wires_it (is_pended app h.irq) refl apart

-- what an observer sees of a run
seen_all : (app : App) → IsAccepted app → (front behind : List Label) (s : State) (v : Observer) → StateWell app s v
    → RunsOn app s (front ++ behind) → (sees_all app v front).pending ≡ (after_all app s front).pending
seen_all app accepted [] behind s v well runs = well.pending
seen_all app accepted (label ∷ front) behind s v well runs =
    seen_all app accepted front behind (after app s label) (sees app v label)
    (next_well app accepted s v label well runs.0) runs.1

module _ (app : App) (accepted : IsAccepted app) (form : is_of_form app ≡ true) (limits : Limits)
    (fine : AreLimits app limits) (labels : List Label) (runs : RunsOn app (first app) labels)
    (kept : Kept limits.every labels) (unspent : NoneIsSpent app labels) (front behind : List Label) (irq : ℕ)
    (h : Handler) (answer : Response) (is : labels ≡ front ++ Arrived irq ∷ behind) (serves : Serves app irq h)
    (response_is : IsResponse app limits.every h answer) (apart : IsApart app limits h answer) where
  number : irq_number app h.irq ≡ Some irq
  number = number_of app accepted form h serves.declared ∙ ap Some serves.number

  -- no dispatcher has its number
  other : (r : ℕ) → Contains (levels app) r → ¬ (dispatcher_number app r ≡ irq)
  other r known same =
      let of = handler_of_task app accepted h serves.declared in
      not_bound app accepted form r known h.task of.row h.irq of.at (binds_own app accepted h of apart.wires_it)
      (number ∙ ap Some (sym same))

  front_runs : RunsOn app (first app) front
  front_runs = runs_front app front (Arrived irq ∷ behind) (first app) (subst (RunsOn app (first app)) is runs)

  start_calm : Unposted app accepted form h irq h.irq number apart.unpended other (first app)
  start_calm = record {
    calm = calm_first app accepted form h irq h.irq number apart.unpended other;
    alarm = refl;
    owing = refl;
  }

  -- behind the last request before it
  behind_request : (before between : List Label) → front ≡ before ++ Arrived irq ∷ between → HasNone irq between
      → slice_index_or (after_all app (first app) front).pending irq false ≡ false
  behind_request before between parts none =
      let own = subst (RunsOn app (first app)) parts front_runs in
      let whole = is ∙ ap (λ xs. xs ++ Arrived irq ∷ behind) parts
      ∙ append_assoc before (Arrived irq ∷ between) (Arrived irq ∷ behind) in
      let row = ap (every_of limits) (sym serves.number) ∙ apart.every_is in
      let distance = kept.apart before between behind irq apart.every row whole in
      let within = apart.within in
      let comes = comes_behind app accepted form limits fine (before ++ Arrived irq ∷ between) own
      (kept_front limits.every (before ++ Arrived irq ∷ between) (Arrived irq ∷ behind)
      (subst (Kept limits.every) (is ∙ ap (λ xs. xs ++ Arrived irq ∷ behind) parts) kept))
      (unspent_front app (before ++ Arrived irq ∷ between) (Arrived irq ∷ behind)
      (subst (NoneIsSpent app) (is ∙ ap (λ xs. xs ++ Arrived irq ∷ behind) parts) unspent))
      before between (Arrived irq) h apart.steps refl
      (kept.late before (between ++ Arrived irq ∷ behind) irq whole) irq serves
      (subst (IsResponse app limits.every h) apart.answer_is response_is) (omega (arith, distance, within)) in
      let until_then = (before ++ Arrived irq ∷ []) ++ comes.until in
      let all : front ≡ until_then ++ comes.behind =
      parts ∙ sym (append_assoc before (Arrived irq ∷ []) between)
      ∙ ap (λ xs. (before ++ Arrived irq ∷ []) ++ xs) comes.parts
      ∙ sym (append_assoc (before ++ Arrived irq ∷ []) comes.until comes.behind) in
      let run_then = subst (RunsOn app (first app)) all front_runs in
      let at = reach app accepted until_then comes.behind (first app) (first_sight app) (first_well app accepted)
      run_then
      in
      ap (λ xs. slice_index_or (after_all app (first app) xs).pending irq false) all
      ∙ ap (λ s. slice_index_or s.pending irq false) (after_append app until_then comes.behind (first app))
      ∙ stays_clear app accepted form h irq h.irq number apart.unpended other comes.behind
      (after_all app (first app) until_then) at.seen at.well at.runs
      (stays_unposted app accepted form h irq h.irq number apart.unpended other until_then (first app) (first_sight app)
      (first_well app accepted) (runs_front app until_then comes.behind (first app) run_then) start_calm)
      (all_behind (λ label. ¬ (label ≡ Arrived irq)) comes.until comes.behind
      (subst (HasNone irq) comes.parts none))
      (comes.nothing.pending irq (itself app accepted form h irq serves))

  pub finds_none : is_pending (sees_all app (first_sight app) front) irq ≡ false
  finds_none =
      ap (λ ps. slice_index_or ps irq false)
      (seen_all app accepted front (Arrived irq ∷ behind) (first app) (first_sight app) (first_well app accepted)
      (subst (RunsOn app (first app)) is runs))
      ∙ elim (last_request irq front) [
        | inr there ↦ behind_request there.0 there.1 there.2 there.3
        | inl none ↦ stays_clear app accepted form h irq h.irq number apart.unpended other front (first app)
            (first_sight app) (first_well app accepted) front_runs start_calm none (none_set IRQ_NUMBERS irq)
      ]

pub runs_respond_each : RunsRespondEach
runs_respond_each app accepted form limits fine labels runs kept unspent = record {
  arrivals = arrivals_served app accepted form limits fine labels runs kept unspent;
  pends = pends_served app accepted form limits fine labels runs kept unspent;
  pends_during = early_served app accepted form limits fine labels runs kept unspent;
  apart = λ front behind irq h answer is serves response_is requests_are.
      finds_none app accepted form limits fine labels runs kept unspent front behind irq h answer is serves response_is
      (apart_of app limits h answer requests_are);
}

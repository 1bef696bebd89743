-- Hardware tasks' handlers and the numbers of their interrupts, which differ; and what a post of an interrupt asks for,
-- by its number, and a message that becomes ready, by its task.
use Rattle.std.proofs.Common.{◌≡◌, ℕ, zero, suc, ◌-◌, ◌≤◌, ◌<◌, ◌==◌, ◌&&◌, ◌||◌, Bool, true, false, not, if◌then◌else◌}
use Rattle.std.proofs.Common.{Contains}
use Rattle.std.proofs.Common.{List, [], ◌∷◌, length, filter, find, slice_get, option_map, Option, Some, None, refl, sym}
use Rattle.std.proofs.Common.{ap, ◌∙◌, eq-eqb, arith}
use Rattle.std.specs.List.{AllByRecursion, list_any}
use Rattle.std.proofs.lemmas.Bool.{eqb-true}
use Rattle.std.proofs.lemmas.Option.{same_Some, none-some}
use Rattle.rt_lemmas.proofs.Bools.{true_and_false, or_left, or_right, not_true, not_so}
use Rattle.rt_lemmas.proofs.Lists.{find_has, found, found_passes, some_at}
use Rattle.rt_lemmas.proofs.Membership.{all_at, all_weaker, any_passes}
use Rattle.rt_ids.specs.Choice.{IsIn}
use Rattle.rt_ids.specs.Lists.{or_zero}
use Rattle.rt_app.specs.Tree.{Body, Task, App}
use Rattle.rt_app.specs.Accepted.{IsAccepted}
use Rattle.rt_app.specs.Level.{levels}
use Rattle.rt_app.specs.Handlers.{Runs, irq_number}
use Rattle.rt_app.specs.Sending.{dispatcher_number}
use Rattle.rt_laws.specs.Places.{Hand}
use Rattle.rt_laws.specs.Services.{service_at}
use Rattle.rt_laws.proofs.FineHandlers.{all_in}
use Rattle.rt_respond.specs.Form.{is_of_form}
use Rattle.rt_respond.specs.Handlers.{handlers}
use Rattle.rt_respond.specs.Pends.{block_pends, body_pends, is_pended}
use Rattle.rt_respond.specs.Work.{handler_asks, release_work, work}
use Rattle.rt_respond.specs.declared.handler.Quantity.{Quantity}
use Rattle.rt_respond.specs.declared.handler.Quantity.TheVariants as counted
use Rattle.rt_respond.specs.declared.handler.Handler.{Handler}
use Rattle.rt_respond.specs.declared.handler.Release.TheVariants as released_by
use Rattle.rt_respond_laws.proofs.Weights.{placed}
use Rattle.rt_respond_laws.proofs.Sending.{Posting, head_in, Split, Agrees, PendsOnly}
use Rattle.rt_respond_laws.proofs.Tasks.{same_irq, named, not_bound}
use Rattle.rt_respond_laws.proofs.Handled.{handler_of_task, of_level, binds_own, handler_serves, same_by_task, Apart}
use Rattle.rt_respond_laws.proofs.Handled.{apart}

find_alike : {X : Type 0} (f g : X → Bool) (xs : List X) → AllByRecursion (λ x. f x ≡ g x) xs
    → find f xs ≡ find g xs
find_alike f g [] same = refl
find_alike f g (x ∷ xs) same =
    ap (λ b. if b then Some x else find f xs) same.0
    ∙ ap (λ o. if g x then Some x else o) (find_alike f g xs same.1)

-- what is found among those that are kept is found by both tests
find_filter : {X : Type 0} (keep test : X → Bool) (xs : List X)
    → find test (filter keep xs) ≡ find (λ x. keep x && test x) xs
find_filter keep test [] = refl
find_filter keep test (x ∷ xs) = by (keep x) (find_filter keep test xs)
  where
    by : (b : Bool) → find test (filter keep xs) ≡ find (λ x. keep x && test x) xs
        → find test (if b then x ∷ filter keep xs else filter keep xs)
        ≡ (if b && test x then Some x else find (λ x. keep x && test x) xs)
    by true rest = ap (λ o. if test x then Some x else o) rest
    by false rest = rest

filter_has : {X : Type 0} (keep : X → Bool) (xs : List X) (k : ℕ) (x : X) → slice_get xs k ≡ Some x → keep x ≡ true
    → IsIn (filter keep xs) x
filter_has keep [] k x at kept = absurd (none-some x at)
filter_has keep (y ∷ ys) k x at kept = by (keep y) refl k at (λ i there. filter_has keep ys i x there kept)
  where
    by : (b : Bool) → keep y ≡ b → (j : ℕ) → slice_get (y ∷ ys) j ≡ Some x
        → ((i : ℕ) → slice_get ys i ≡ Some x → IsIn (filter keep ys) x)
        → IsIn (if b then y ∷ filter keep ys else filter keep ys) x
    by true is zero at next = (0, at)
    by true is (suc i) at next = let rest = next i at in (suc rest.0, rest.1)
    by false is zero at next =
        absurd (true_and_false (keep x) kept (sym (ap keep (same_Some y x at)) ∙ is))
    by false is (suc i) at next = next i at

filter_kept : {X : Type 0} (keep : X → Bool) (xs : List X) → AllByRecursion (λ x. IsIn xs x × (keep x ≡ true))
    (filter keep xs)
filter_kept keep [] = tt
filter_kept keep (x ∷ xs) =
    by (keep x) refl
    (all_weaker (λ y. IsIn xs y × (keep y ≡ true)) (λ y. IsIn (x ∷ xs) y × (keep y ≡ true))
    (λ y is. ((suc is.0.0, is.0.1), is.1)) (filter keep xs) (filter_kept keep xs))
  where
    by : (b : Bool) → keep x ≡ b → AllByRecursion (λ y. IsIn (x ∷ xs) y × (keep y ≡ true)) (filter keep xs)
        → AllByRecursion (λ y. IsIn (x ∷ xs) y × (keep y ≡ true)) (if b then x ∷ filter keep xs else filter keep xs)
    by true is rest = (((0, refl), is), rest)
    by false is rest = rest

pub same_test : (a b c d : ℕ) → (a ≡ b → c ≡ d) → (c ≡ d → a ≡ b) → (a == b) ≡ (c == d)
same_test a b c d on back = by (a == b) refl (c == d) refl
  where
    by : (x : Bool) → (a == b) ≡ x → (y : Bool) → (c == d) ≡ y → x ≡ y
    by true first true second = refl
    by true first false second =
        absurd (true_and_false (c == d) (eq-eqb c d (on (eqb-true a b first))) second)
    by false first true second =
        absurd (true_and_false (a == b) (eq-eqb a b (back (eqb-true c d second))) first)
    by false first false second = refl

-- no two of these have one number
abbrev pub Distinct : List Handler → Type 0
Distinct [] = Unit {0}
Distinct (h ∷ hs) = AllByRecursion (λ g. ¬ (g.number ≡ h.number)) hs × Distinct hs

abbrev is_wired : Handler → Bool
is_wired h = not h.is_dispatcher

module _ (app : App) (accepted : IsAccepted app) (form : is_of_form app ≡ true) where
  -- the handlers of hardware tasks
  abbrev pub wired : List Handler
  wired = filter is_wired (handlers app)

  pub wired_is : (h : Handler) → IsIn wired h → IsIn (handlers app) h × (h.is_dispatcher ≡ false)
  wired_is h there =
      let is = all_at (λ h. IsIn (handlers app) h × (is_wired h ≡ true)) wired there.0 h
      (filter_kept is_wired (handlers app)) there.1 in
      (is.0, not_true h.is_dispatcher is.1)

  pub is_in_wired : (h : Handler) → IsIn (handlers app) h → h.is_dispatcher ≡ false → IsIn wired h
  is_in_wired h there is = filter_has is_wired (handlers app) there.0 h there.1 (ap not is)

  pub number_of : (h : Handler) → IsIn (handlers app) h → irq_number app h.irq ≡ Some h.number
  number_of h is = (handler_of_task app accepted h is).number

  -- both of one number, and both of hardware tasks
  record BothWired (h g : Handler) : Type 0 where
    number : g.number ≡ h.number
    first : h.is_dispatcher ≡ false
    second : g.is_dispatcher ≡ false

  same_task : (n m : ℕ) → Runs n ≡ Runs m → n ≡ m
  same_task n m same = cc

  tasks_alike : (h g : Handler) → IsIn (handlers app) h → IsIn (handlers app) g → BothWired h g → h.task ≡ g.task
  tasks_alike h g h_in g_in both =
      let one = handler_serves app accepted h h_in in
      let other = handler_serves app accepted g g_in in
      let service = same_Some one.service other.service (sym one.at ∙ ap (service_at app) (sym both.number) ∙ other.at)
      in
      same_task h.task g.task
      (sym (one.runs both.first) ∙ ap (λ s. s.handler) service ∙ other.runs both.second)

  -- a hardware task's handler is known by its number
  pub same_wired : (h g : Handler) → IsIn wired h → IsIn wired g → h.number ≡ g.number → h ≡ g
  same_wired h g h_in g_in same =
      let one = wired_is h h_in in
      let other = wired_is g g_in in
      same_by_task app accepted h g one.0 other.0
      (tasks_alike h g one.0 other.0 (record { number = sym same; first = one.1; second = other.1 }))

  distinct_kept : (hs : List Handler) → Apart app accepted BothWired tasks_alike hs → Distinct (filter is_wired hs)
  distinct_kept [] all = tt
  distinct_kept (h ∷ hs) all = by h.is_dispatcher refl (distinct_kept hs all.1)
    where
      by : (b : Bool) → h.is_dispatcher ≡ b → Distinct (filter is_wired hs)
          → Distinct (if not b then h ∷ filter is_wired hs else filter is_wired hs)
      by true is rest = rest
      by false is rest = (
        all_in (λ g. ¬ (g.number ≡ h.number)) (filter is_wired hs) (λ g there same.
            let own = all_at (λ g. IsIn hs g × (is_wired g ≡ true)) (filter is_wired hs) there.0 g
            (filter_kept is_wired hs) there.1 in
            all_at (λ g. ¬ BothWired h g) hs own.0.0 g all.0 own.0.1
            (record { number = same; first = is; second = not_true g.is_dispatcher own.1 })),
        rest,
      )

  pub distinct : Distinct wired
  distinct = distinct_kept (handlers app) (apart app accepted BothWired tasks_alike)

  -- the handler of a number is found by it
  pub find_wired : (h : Handler) → IsIn wired h → find (λ g. g.number == h.number) wired ≡ Some h
  find_wired h is =
      let one = found (λ (g : Handler). g.number == h.number) wired is.0 h is.1 (eq-eqb h.number h.number refl)
      in
      let there = find_has (IsIn wired) (λ (g : Handler). g.number == h.number) wired one.0
      (all_in (IsIn wired) wired (λ g i. i)) one.1 in
      let passes = found_passes (λ (g : Handler). g.number == h.number) wired one.0 one.1 in
      one.1 ∙ ap Some (same_wired one.0 h there is (eqb-true one.0.number h.number passes))

  -- what is found is a handler of that number
  pub found_wired : (n : ℕ) (h : Handler) → find (λ g. g.number == n) wired ≡ Some h → IsIn wired h × (h.number ≡ n)
  found_wired n h is = (
    find_has (IsIn wired) (λ (g : Handler). g.number == n) wired h (all_in (IsIn wired) wired (λ g i. i)) is,
    eqb-true h.number n (found_passes (λ (g : Handler). g.number == n) wired h is),
  )

  -- among all handlers it is the same, where the number is no dispatcher's
  pub found_alike : (n : ℕ) → ((h : Handler) → IsIn (handlers app) h → h.is_dispatcher ≡ true → ¬ (h.number ≡ n))
      → find (λ g. g.number == n) (handlers app) ≡ find (λ g. g.number == n) wired
  found_alike n other =
      find_alike (λ g. g.number == n) (λ g. is_wired g && (g.number == n)) (handlers app)
      (all_in (λ g. (g.number == n) ≡ (is_wired g && (g.number == n))) (handlers app) (λ g there.
      by g there g.is_dispatcher refl))
      ∙ sym (find_filter is_wired (λ g. g.number == n) (handlers app))
    where
      by : (g : Handler) → IsIn (handlers app) g → (b : Bool) → g.is_dispatcher ≡ b
          → (g.number == n) ≡ (not b && (g.number == n))
      by g there false is = refl
      by g there true is = not_so (g.number == n) (λ same. other g there is (eqb-true g.number n same))

  -- a handler is found by its task
  pub find_task : (h : Handler) → IsIn (handlers app) h → find (λ g. g.task == h.task) (handlers app) ≡ Some h
  find_task h is =
      let one = found (λ (g : Handler). g.task == h.task) (handlers app) is.0 h is.1 (eq-eqb h.task h.task refl)
      in
      let there = find_has (IsIn (handlers app)) (λ (g : Handler). g.task == h.task) (handlers app) one.0
      (all_in (IsIn (handlers app)) (handlers app) (λ g i. i)) one.1 in
      let passes = found_passes (λ (g : Handler). g.task == h.task) (handlers app) one.0 one.1 in
      one.1 ∙ ap Some (same_by_task app accepted one.0 h there is (eqb-true one.0.task h.task passes))

  -- an index that is no dispatcher's
  abbrev pub Allowed : ℕ → Type 0
  Allowed j = (h : Handler) → IsIn (handlers app) h → h.is_dispatcher ≡ true → ¬ (h.irq ≡ j)

  -- what a body pends is none
  pub pended_allowed : (j : ℕ) → is_pended app j ≡ true → Allowed j
  pended_allowed j pended h there is same =
      let level = of_level app accepted h there is in
      let own = named app accepted form h.priority level.known in
      let index : own.index ≡ j = same_Some own.index j (sym own.of ∙ level.of ∙ ap Some same) in
      true_and_false (is_pended app j) pended (ap (is_pended app) (sym index) ∙ own.unpended)

  pub task_allowed : (n : ℕ) (t : Task) → slice_get app.tasks n ≡ Some t → PendsOnly Allowed t.body.block
  task_allowed n t at j there =
      pended_allowed j (or_right _ (list_any (λ t. block_pends j t.body.block) app.tasks)
      (any_passes (λ t. block_pends j t.body.block) app.tasks n t at there))

  pub init_allowed : (b : Body) → app.init ≡ Some b → PendsOnly Allowed b.block
  init_allowed b is j there =
      pended_allowed j (or_left (body_pends j app.init || body_pends j app.idle) _
      (or_left (body_pends j app.init) (body_pends j app.idle) (ap (body_pends j) is ∙ there)))

  pub idle_allowed : (b : Body) → app.idle ≡ Some b → PendsOnly Allowed b.block
  idle_allowed b is j there =
      pended_allowed j (or_left (body_pends j app.init || body_pends j app.idle) _
      (or_right (body_pends j app.init) (body_pends j app.idle) (ap (body_pends j) is ∙ there)))

  module _ (what : Quantity) (i : Handler) where
    -- what a post of an interrupt of this number asks for, and a message of a task, of which its place is taken before
    abbrev pub posts : Posting
    posts = record {
      irq = λ n. handler_asks (work app what i) (find (λ h. h.number == n) wired);
      task = λ t. option_map (λ k. k - placed what t) (release_work app what i (released_by.Message t));
      place = placed what;
    }

    pub posts_are : (h : Handler) → IsIn wired h → posts.irq h.number ≡ work app what i h
    posts_are h is = ap (handler_asks (work app what i)) (find_wired h is)

    pub sends_are : (h : Handler) → IsIn (handlers app) h → posts.task h.task
        ≡ option_map (λ k. k - placed what h.task) (work app what i h)
    sends_are h is =
        ap (λ o. option_map (λ k. k - placed what h.task) (handler_asks (work app what i) o)) (find_task h is)

    -- a message's parts, where its place is part of what it asks for
    sends_split : ((m k : ℕ) → release_work app what i (released_by.Message m) ≡ Some k → placed what m ≤ k)
        → (n k : ℕ) → release_work app what i (released_by.Message n) ≡ Some k → Split posts n k
    sends_split places n k asked = record {
      ready = k - placed what n;
      is = ap (option_map (λ k. k - placed what n)) asked;
      sum = let enough = places n k asked in omega (arith, enough);
    }

    -- it is what a `pend` of its index asks for
    pends_agree : (j : ℕ) → j < length app.irqs → Allowed j
        → posts.irq (or_zero (irq_number app j)) ≡ release_work app what i (released_by.Request j)
    pends_agree j within allowed = go (irq_number app j) refl
      where
        there : irq_number app j ≡ None → ⊥
        there none =
            let row = some_at app.irqs j within in
            none-some row.0.number (sym none ∙ ap (option_map (λ d. d.number)) row.1)

        alike : (n : ℕ) → irq_number app j ≡ Some n → (h : Handler) → IsIn (handlers app) h → (b : Bool)
            → h.is_dispatcher ≡ b → (not b && (h.number == n)) ≡ (h.irq == j)
        alike n number h is true dispatches =
            sym (not_so (h.irq == j) (λ same. allowed h is dispatches (eqb-true h.irq j same)))
        alike n number h is false wires =
            same_test h.number n h.irq j
            (λ same. same_irq app accepted h.irq j n (number_of h is ∙ ap Some same) number)
            (λ same. same_Some h.number n (sym (number_of h is) ∙ ap (irq_number app) same ∙ number))

        go : (o : Option ℕ) → irq_number app j ≡ o
            → posts.irq (or_zero o) ≡ release_work app what i (released_by.Request j)
        go None none = absurd (there none)
        go (Some n) number =
            ap (handler_asks (work app what i))
            (find_filter is_wired (λ h. h.number == n) (handlers app)
            ∙ find_alike (λ h. is_wired h && (h.number == n)) (λ h. h.irq == j) (handlers app)
            (all_in (λ h. (is_wired h && (h.number == n)) ≡ (h.irq == j)) (handlers app) (λ h is.
            alike n number h is h.is_dispatcher refl)))

    -- a dispatcher's interrupt asks for nothing of its own
    pub turn_asks : (r : ℕ) → Contains (levels app) r → posts.irq (dispatcher_number app r) ≡ Some 0
    turn_asks r known = go (find (λ h. h.number == dispatcher_number app r) wired) refl
      where
        go : (o : Option Handler) → find (λ h. h.number == dispatcher_number app r) wired ≡ o
            → handler_asks (work app what i) o ≡ Some 0
        go None is = refl
        go (Some h) is =
            let there = found_wired (dispatcher_number app r) h is in
            let own = wired_is h there.0 in
            let of = handler_of_task app accepted h own.0 in
            absurd (not_bound app accepted form r known h.task of.row h.irq of.at (binds_own app accepted h of own.1)
            (of.number ∙ ap Some there.1))

    pub agree : ((m k : ℕ) → release_work app what i (released_by.Message m) ≡ Some k → placed what m ≤ k)
        → Agrees app (release_work app what i) posts Allowed
    agree places = record { pends = pends_agree; sends = sends_split places; turns = turn_asks }

-- of core steps no place counts
pub steps_hand : (app : App) (accepted : IsAccepted app) (form : is_of_form app ≡ true) (i : Handler)
    (hands : List Hand) → head_in (posts app accepted form counted.Steps i) hands ≡ 0
steps_hand app accepted form i [] = refl
steps_hand app accepted form i (None ∷ hands) = refl
steps_hand app accepted form i (Some t ∷ hands) = refl

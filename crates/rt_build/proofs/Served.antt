-- How the interrupts of an application are served, service by service.
use Rattle.std.proofs.Common.{◌≡◌, eq-eqb, ◌≢◌, ℕ, zero, suc, ◌+◌, ◌<◌, ◌≤◌, ◌^◌, ◌==◌, Bool, true, false, List, []}
use Rattle.std.proofs.Common.{◌∷◌, ◌++◌, length, map, get_or, filter, set, take, append-nil, Option, Some}
use Rattle.std.proofs.Common.{option_map, slice_get, Contains, refl, sym, ap, subst, ◌∙◌, arith, length-set}
use Rattle.std.specs.List.{AllByRecursion, zip}
use Rattle.std.proofs.lemmas.Bool.{eqb-true}
use Rattle.std.proofs.lemmas.List.{map-append, take_more}
use Rattle.std.proofs.lemmas.List.Elements.{filter-append}
use Rattle.std.proofs.lemmas.Option.{same_Some, get_or_from_slice_get}
use Rattle.std.proofs.lemmas.Slice.Zip.{length-zip, get_or-zip}
use Rattle.rt_lemmas.proofs.Bools.{true_and_false}
use Rattle.rt_lemmas.proofs.Lists.{mapped_at, all_behind}
use Rattle.rt_lemmas.proofs.Membership.{all_at, contains_here, contains_there}
use Rattle.rt_ids.specs.Lists.{AreDifferent}
use Rattle.rt_ids.specs.Priority.{hardware}
use Rattle.rt_app.specs.declared.app.IrqDecl.{IrqDecl}
use Rattle.rt_app.specs.declared.costs.TheConstants.{DISPATCHER_WORDS, TIMER_WORDS}
use Rattle.rt_app.specs.Tree.{Task, App}
use Rattle.rt_app.specs.Accepted.{IsAccepted}
use Rattle.rt_app.specs.Acceptance.{IsSound}
use Rattle.rt_app.specs.Frame.{frame_words}
use Rattle.rt_app.specs.Handlers.{Runs, Dispatches, Times, Service, services}
use Rattle.rt_app.specs.Level.{levels}
use Rattle.rt_app.specs.Plan.{frames}
use Rattle.rt_app.proofs.Different.{different_apart}
use Rattle.rt_app.proofs.Parts.{parts}
use Rattle.rt_app.proofs.SoundCeilings.{tasks_in_range, levels_in_range}
use Rattle.rt_code.specs.declared.image.Handler.{Handler}
use Rattle.rt_gen_queue.specs.Called.{row_for}
use Rattle.rt_build.specs.Entries.{Entries, task_words, handler_words, handler_row, irq_rows}
use Rattle.rt_build.specs.Inside.Tables.{service_handler, HasHandlers, irq_row}

set_same : {X : Type 0} (xs : List X) (i : ℕ) (y : X) → i < length xs → slice_get (set xs i y) i ≡ Some y
set_same [] i y within = absurd (omega arith)
set_same (x ∷ xs) zero y within = refl
set_same (x ∷ xs) (suc i) y within = set_same xs i y (omega arith)

set_other : {X : Type 0} (xs : List X) (i k : ℕ) (y : X) → k ≢ i → slice_get (set xs i y) k ≡ slice_get xs k
set_other [] i k y differ = refl
set_other (x ∷ xs) zero zero y differ = absurd (differ refl)
set_other (x ∷ xs) zero (suc k) y differ = refl
set_other (x ∷ xs) (suc i) zero y differ = refl
set_other (x ∷ xs) (suc i) (suc k) y differ = set_other xs i k y (λ e. differ (ap suc e))

abbrev irqs_of : List Service → List ℕ
irqs_of ss = map (λ s. s.irq) ss

-- no service is that of an interrupt that none has
unserved : (irq : ℕ) (ss : List Service) → ¬ Contains (irqs_of ss) irq → filter (λ s. s.irq == irq) ss ≡ []
unserved irq [] fresh = refl
unserved irq (s ∷ ss) fresh = go (s.irq == irq) refl
    (unserved irq ss (λ is. fresh (contains_there s.irq (irqs_of ss) irq is)))
  where
    go : (b : Bool) → (s.irq == irq) ≡ b → filter (λ s. s.irq == irq) ss ≡ [] → filter (λ s. s.irq == irq) (s ∷ ss) ≡ []
    go true e rest = absurd (fresh (subst (λ n. Contains (n ∷ irqs_of ss) irq) (sym (eqb-true s.irq irq e))
        (contains_here irq (irqs_of ss))))
    go false e rest = rw e rest

module _ (app : App) (at : Entries) where
  -- and one more
  pub one_served : (ss : List Service) (s : Service) (table : List (Option Handler)) → HasHandlers app at ss table
      → s.irq < length app.irqs → filter (λ o. o.irq == s.irq) ss ≡ []
      → HasHandlers app at (ss ++ s ∷ []) (set table s.irq (Some (handler_row app at s)))
  one_served ss s table has within fresh =
      record {
        long = length-set table s.irq (Some (handler_row app at s)) ∙ has.long;
        each =
            λ irq inside. go irq inside (s.irq == irq) refl;
      }
    where
      more : (irq : ℕ) → filter (λ o. o.irq == irq) (ss ++ s ∷ []) ≡ filter (λ o. o.irq == irq) ss
          ++ filter (λ o. o.irq == irq) (s ∷ [])
      more irq = filter-append (λ o. o.irq == irq) ss (s ∷ [])

      first : List Service → Option Handler
      first found = option_map (handler_row app at) (slice_get found 0)

      go : (irq : ℕ) → irq < length app.irqs → (b : Bool) → (s.irq == irq) ≡ b
          → slice_get (set table s.irq (Some (handler_row app at s))) irq
          ≡ Some (service_handler app at (ss ++ s ∷ []) irq)
      go irq inside true is =
          let same : s.irq ≡ irq = eqb-true s.irq irq is in
          let none : filter (λ o. o.irq == irq) ss ≡ [] = subst (λ i. filter (λ o. o.irq == i) ss ≡ []) same fresh in
          let alone : filter (λ o. o.irq == irq) (s ∷ []) ≡ s ∷ [] = rw is refl in
          let found : filter (λ o. o.irq == irq) (ss ++ s ∷ []) ≡ s ∷ [] = more irq
          ∙ (ap (λ os. os ++ filter (λ o. o.irq == irq) (s ∷ [])) none ∙ alone) in
          ap (slice_get (set table s.irq (Some (handler_row app at s)))) (sym same)
          ∙ (set_same table s.irq (Some (handler_row app at s)) (omega (arith, has.long))
          ∙ ap (λ os. Some (first os)) (sym found))
      go irq inside false is =
          let differ : irq ≢ s.irq = λ e. true_and_false (s.irq == irq) (eq-eqb s.irq irq (sym e)) is in
          let alone : filter (λ o. o.irq == irq) (s ∷ []) ≡ [] = rw is refl in
          let found : filter (λ o. o.irq == irq) (ss ++ s ∷ []) ≡ filter (λ o. o.irq == irq) ss =
          more irq ∙ (ap (λ os. filter (λ o. o.irq == irq) ss ++ os) alone
          ∙ append-nil (filter (λ o. o.irq == irq) ss)) in
          set_other table s.irq irq (Some (handler_row app at s)) differ
          ∙ (has.each irq inside ∙ ap (λ os. Some (first os)) (sym found))

  -- a row for each interrupt
  rows_from : (ss : List Service) (i : ℕ) (ds : List IrqDecl) (table : List (Option Handler)) → length table ≡ length ds
      → ((k : ℕ) → k < length ds → slice_get table k ≡ Some (service_handler app at ss (i + k)))
      → services app ≡ ss → map (λ (irq, handler). irq_row irq handler) (zip ds table) ≡ irq_rows app at i ds
  rows_from ss i [] table long each are = refl
  rows_from ss i (d ∷ ds) [] long each are = absurd (omega (arith, long))
  rows_from ss i (d ∷ ds) (h ∷ table) long each are =
      let e : i + 0 ≡ i = omega arith in
      let own : h ≡ service_handler app at ss i =
      same_Some _ _ (each 0 (omega arith)) ∙ ap (service_handler app at ss) e in
      let same : service_handler app at ss i ≡ service_handler app at (services app) i =
      ap (λ os. service_handler app at os i) (sym are) in
      let rest : (k : ℕ) → k < length ds → slice_get table k ≡ Some (service_handler app at ss (i + 1 + k)) =
      λ k inside. (let f : i + suc k ≡ i + 1 + k = omega arith in each (suc k) (omega arith)
      ∙ ap (λ j. Some (service_handler app at ss j)) f) in
      ap (λ o. irq_row d o ∷ map (λ (irq, handler). irq_row irq handler) (zip ds table)) (own ∙ same)
      ∙ ap (λ rows. irq_row d (service_handler app at (services app) i) ∷ rows)
      (rows_from ss (i + 1) ds table (omega (arith, long)) rest are)

  pub rows_are : (table : List (Option Handler)) → HasHandlers app at (services app) table
      → map (λ (irq, handler). irq_row irq handler) (zip app.irqs table) ≡ irq_rows app at 0 app.irqs
  rows_are table has =
      rows_from (services app) 0 app.irqs table has.long
      (λ k inside. (let e : 0 + k ≡ k = omega arith in has.each k inside
      ∙ ap (λ j. Some (service_handler app at (services app) j)) (sym e))) refl

-- the interrupt of a service is declared, and its level is a priority that there is
module _ (app : App) (sound : IsSound app) (before behind : List Service) (s : Service)
    (are : services app ≡ before ++ s ∷ behind) where
  placed : (s.irq < length app.irqs) × (1 ≤ s.priority) × (s.priority ≤ 2 ^ app.bits)
  placed =
      let IsPlaced : Service → Type 0 = λ s. (s.irq < length app.irqs) × (1 ≤ s.priority)
      × (s.priority ≤ 2 ^ app.bits) in
      (all_behind IsPlaced before (s ∷ behind) (subst (AllByRecursion IsPlaced) are sound.served)).0

  pub declared_irq : s.irq < length app.irqs
  declared_irq = placed.0

  pub declared_level : (1 ≤ s.priority) × (s.priority ≤ 2 ^ app.bits)
  declared_level = (placed.1, placed.2)

module _ (app : App) (at : Entries) (sound : IsSound app) where
  -- an interrupt that serves nothing before serves one more
  pub next_served : (before behind more : List Service) (s : Service) (table : List (Option Handler))
      → services app ≡ before ++ s ∷ behind → more ≡ before ++ s ∷ [] → HasHandlers app at before table
      → HasHandlers app at more (set table s.irq (Some (handler_row app at s)))
  next_served before behind more s table are next has =
      let apart : AreDifferent (irqs_of before ++ irqs_of (s ∷ behind)) =
      subst AreDifferent (ap irqs_of are ∙ map-append (λ s. s.irq) before (s ∷ behind)) sound.services_differ in
      let fresh : filter (λ o. o.irq == s.irq) before ≡ [] =
      unserved s.irq before (λ is. different_apart (irqs_of before) (irqs_of (s ∷ behind)) apart s.irq is
      (contains_here s.irq (irqs_of behind))) in
      subst (λ ss. HasHandlers app at ss (set table s.irq (Some (handler_row app at s)))) (sym next)
      (one_served app at before s table has (declared_irq app sound before behind s are) fresh)

-- how the interrupt of a task serves it
pub row_is : (app : App) (at : Entries) (n : ℕ) (t : Task) (value entry frame : ℕ) → slice_get app.tasks n ≡ Some t
    → value ≡ hardware app.bits t.priority → entry ≡ at.task n
    → frame ≡ frame_words t.args t.body
    → record { value = value; entry = entry; frame = frame } ≡ handler_row app at
    (record { irq = 0; handler = Runs n; priority = t.priority })
row_is app at n t value entry frame there valued entered framed =
    let words : frame ≡ handler_words app (Runs n) = framed ∙ ap task_words (sym there) in
    rw (valued, entered, words) refl

-- and how that of a level's dispatcher serves it
pub level_row_is : (app : App) (at : Entries) (p value entry : ℕ) → value ≡ hardware app.bits p
    → entry ≡ at.dispatcher p
    → record { value = value; entry = entry; frame = DISPATCHER_WORDS } ≡ handler_row app at
    (record { irq = 0; handler = Dispatches p; priority = p })
level_row_is app at p value entry valued entered = rw (valued, entered) refl

-- and how that of the monotonic serves it
pub timer_row_is : (app : App) (at : Entries) (p value entry : ℕ) → value ≡ hardware app.bits p → entry ≡ at.timer
    → record { value = value; entry = entry; frame = TIMER_WORDS } ≡ handler_row app at
    (record { irq = 0; handler = Times; priority = p })
timer_row_is app at p value entry valued entered = rw (valued, entered) refl

-- and the row of a task's body
pub body_row_is : (at : Entries) (n : ℕ) (t : Task) (entry frame : ℕ) → entry ≡ at.task n
    → frame ≡ frame_words t.args t.body
    → record { task = n; entry = entry; frame = frame; args = t.args } ≡ row_for at.task n t
body_row_is at n t entry frame entered framed = rw (entered, framed) refl

-- a level is a priority that there is
pub level_within : (app : App) → IsAccepted app → (k p : ℕ) → slice_get (levels app) k ≡ Some p
    → (1 ≤ p) × (p ≤ 2 ^ app.bits)
level_within app accepted k p there =
    all_at (λ p. (1 ≤ p) × (p ≤ 2 ^ app.bits)) (levels app) k p
    (levels_in_range app accepted (parts app accepted.rules)) there

-- a task has a priority that there is, and a frame in the plan
pub priority_of : (app : App) → IsAccepted app → (n : ℕ) (t : Task) → slice_get app.tasks n ≡ Some t
    → (1 ≤ t.priority) × (t.priority ≤ 2 ^ app.bits)
priority_of app accepted n t there =
    all_at (λ t. (1 ≤ t.priority) × (t.priority ≤ 2 ^ app.bits)) app.tasks n t
    (tasks_in_range app accepted (parts app accepted.rules)) there

pub frame_at : (app : App) (n : ℕ) (t : Task) (frame : ℕ) → slice_get app.tasks n ≡ Some t
    → frame ≡ get_or (frames app) (n + 2) frame → frame ≡ frame_words t.args t.body
frame_at app n t frame there is =
    let e : n + 2 ≡ suc (suc n) = omega arith in
    let at : slice_get (map (λ t. frame_words t.args t.body) app.tasks) n ≡ Some (frame_words t.args t.body) =
    mapped_at (λ t. frame_words t.args t.body) app.tasks n t there in
    is ∙ (ap (λ k. get_or (frames app) k frame) e
    ∙ get_or_from_slice_get (map (λ t. frame_words t.args t.body) app.tasks) n (frame_words t.args t.body) frame at)

-- the pairs of one index more
pub zip_next : {X Y : Type 0} (xs : List X) (ys : List Y) (i : ℕ) (x : X) (y : Y) → i < length xs → i < length ys
    → x ≡ get_or xs i x → y ≡ get_or ys i y
    → take (i + 1) (zip xs ys) ≡ take i (zip xs ys) ++ (x, y) ∷ []
zip_next xs ys i x y within within_too at at_too =
    let long : i < length (zip xs ys) = omega (arith, length-zip xs ys) in
    let read : get_or (zip xs ys) i (x, y) ≡ (x, y) = get_or-zip xs ys i (x, y) within within_too
    ∙ (ap (λ z. (z, get_or ys i y)) (sym at) ∙ ap (λ z. (x, z)) (sym at_too)) in
    take_more (zip xs ys) i (x, y) long ∙ ap (λ p. take i (zip xs ys) ++ p ∷ []) read

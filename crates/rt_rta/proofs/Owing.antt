-- The core steps that are owed to a priority: what its started jobs and the higher ones have left, and the whole
-- handling of each of their interrupts that is pending.
use Rattle.std.proofs.Common.{◌≡◌, ℕ, zero, suc, ◌+◌, ◌*◌, ◌≤◌, ◌<◌, ◌==◌, Bool, true, false}
use Rattle.std.proofs.Common.{nat_le, if◌then◌else◌, List, [], ◌∷◌, slice_get, slice_set, slice_index_or}
use Rattle.std.proofs.Common.{Option, Some, None, refl, ap, ◌∙◌, arith, eq-eqb}
use Rattle.std.specs.Prelude.{sum_by}
use Rattle.std.proofs.lemmas.Bool.{eqb-true, leb-true, le-leb}
use Rattle.std.proofs.lemmas.List.Sums.{sum_by-cons}
use Rattle.std.proofs.lemmas.Option.{same_Some, none-some}
use Rattle.std.proofs.Math.Nat.{mul-le-mul_right}
use Rattle.rt_lemmas.proofs.Bools.{true_and_false}
use Rattle.rt_lemmas.proofs.Indices.{now_cleared}
use Rattle.rt_ids.specs.Lists.{then_from}
use Rattle.rt_app.specs.Tree.{Task, App}
use Rattle.rt_app.specs.Handlers.{bound_number}
use Rattle.rt_laws.specs.State.{Job, State}
use Rattle.rt_laws.specs.Preemption.{system_ceiling}
use Rattle.rt_rta.specs.declared.limits.Limit.{Limit}
use Rattle.rt_rta.specs.Limits.{every_of}
use Rattle.rt_rta.specs.Response.{requests, handling_steps, task_demand}

-- as many as this, where the priority is at least the priority
abbrev pub at_priority : ℕ → ℕ → ℕ → ℕ
at_priority p q n = if nat_le p q then n else 0

pub at_priority_is : (p q n : ℕ) → p ≤ q → at_priority p q n ≡ n
at_priority_is p q n over = ap (λ b. if b then n else 0) (le-leb p q over)

pub not_at_priority : (p q n : ℕ) → q < p → at_priority p q n ≡ 0
not_at_priority p q n under = by (nat_le p q) refl
  where
    by : (b : Bool) → nat_le p q ≡ b → (if b then n else 0) ≡ 0
    by true test = (let over = leb-true p q test in absurd (omega arith))
    by false test = refl

-- of a pending interrupt a whole handling is owed
abbrev pub asked : List Bool → Option ℕ → ℕ → ℕ
asked pending None steps = 0
asked pending (Some n) steps = if slice_index_or pending n false then steps else 0

-- how often each interrupt was requested
abbrev pub Counts : Type 0
Counts = ℕ → ℕ

abbrev pub counted : Counts → Option ℕ → ℕ
counted counts None = 0
counted counts (Some n) = counts n

abbrev pub one_more : ℕ → Counts → Counts
one_more irq counts k = if k == irq then suc (counts k) else counts k

-- each pending interrupt once
abbrev pub once : List Bool → Counts
once pending k = if slice_index_or pending k false then 1 else 0

pub other_set : (xs : List Bool) (i j : ℕ) (b : Bool) → ¬ (j ≡ i) → slice_index_or (slice_set xs i b) j false
    ≡ slice_index_or xs j false
other_set [] i j b differs = refl
other_set (x ∷ xs) zero zero b differs = absurd (differs refl)
other_set (x ∷ xs) zero (suc j) b differs = refl
other_set (x ∷ xs) (suc i) zero b differs = refl
other_set (x ∷ xs) (suc i) (suc j) b differs = other_set xs i j b (λ same. differs (ap suc same))

asked_most : (b : Bool) (steps : ℕ) → (if b then steps else 0) ≤ steps
asked_most true steps = omega arith
asked_most false steps = omega arith

-- a request raises what is asked for by a handling at most
asked_raised : (pending : List Bool) (counts : Counts) (irq : ℕ) (o : Option ℕ) (steps : ℕ)
    → asked (slice_set pending irq true) o steps + counted counts o * steps
    ≤ asked pending o steps + counted (one_more irq counts) o * steps
asked_raised pending counts irq None steps = omega arith
asked_raised pending counts irq (Some n) steps = by (n == irq) refl
  where
    now : ℕ
    now = asked (slice_set pending irq true) (Some n) steps

    by : (b : Bool) → (n == irq) ≡ b → now + counts n * steps
        ≤ asked pending (Some n) steps + (if b then suc (counts n) else counts n) * steps
    by true test =
        let most : now ≤ steps = asked_most (slice_index_or (slice_set pending irq true) n false) steps in
        let more : suc (counts n) * steps ≡ counts n * steps + steps = omega arith in
        omega (arith, most, more)
    by false test =
        let same : now ≡ asked pending (Some n) steps =
        ap (λ b. if b then steps else 0)
        (other_set pending irq n true (λ e. true_and_false (n == irq) (eq-eqb n irq e) test)) in
        omega (arith, same)

-- a take lowers it
asked_cleared : (pending : List Bool) (irq : ℕ) (o : Option ℕ) (steps : ℕ)
    → asked (slice_set pending irq false) o steps ≤ asked pending o steps
asked_cleared pending irq None steps = omega arith
asked_cleared pending irq (Some n) steps = by (n == irq) refl
  where
    by : (b : Bool) → (n == irq) ≡ b → asked (slice_set pending irq false) (Some n) steps ≤ asked pending (Some n) steps
    by true test =
        let none : asked (slice_set pending irq false) (Some n) steps ≡ 0 =
        ap (λ b. if b then steps else 0) (ap (λ i. slice_index_or (slice_set pending irq false) i false)
        (eqb-true n irq test) ∙ now_cleared pending irq) in
        omega (arith, none)
    by false test =
        let same : asked (slice_set pending irq false) (Some n) steps ≡ asked pending (Some n) steps =
        ap (λ b. if b then steps else 0) (other_set pending irq n false
        (λ e. true_and_false (n == irq) (eq-eqb n irq e) test)) in
        omega (arith, same)

both_less : (test : Bool) (a b c d : ℕ) → a + b ≤ c + d
    → (if test then a else 0) + (if test then b else 0) ≤ (if test then c else 0) + (if test then d else 0)
both_less true a b c d h = h
both_less false a b c d h = omega arith

one_less : (test : Bool) (a b : ℕ) → a ≤ b → (if test then a else 0) ≤ (if test then b else 0)
one_less true a b h = h
one_less false a b h = omega arith

still_none : (test : Bool) (a : ℕ) → a ≡ 0 → (if test then a else 0) ≡ 0
still_none true a h = h
still_none false a h = refl

-- of tasks, to a priority
module _ (app : App) (p : ℕ) where
  abbrev pub owed_to : List Bool → Task → ℕ
  owed_to pending t = at_priority p t.priority (asked pending (bound_number app t) (handling_steps app t))

  abbrev pub owed_pending : List Bool → List Task → ℕ
  owed_pending pending [] = 0
  owed_pending pending (t ∷ ts) = owed_to pending t + owed_pending pending ts

  abbrev pub raised_by : Counts → Task → ℕ
  raised_by counts t = at_priority p t.priority (counted counts (bound_number app t) * handling_steps app t)

  abbrev pub raised : Counts → List Task → ℕ
  raised counts [] = 0
  raised counts (t ∷ ts) = raised_by counts t + raised counts ts

  abbrev pub owed_jobs : List Job → ℕ
  owed_jobs [] = 0
  owed_jobs (job ∷ others) = at_priority p job.priority job.left + owed_jobs others

  abbrev pub owed : State → ℕ
  owed s = owed_jobs s.jobs + owed_pending s.pending app.tasks

  pub request_raises : (pending : List Bool) (counts : Counts) (irq : ℕ) (ts : List Task)
      → owed_pending (slice_set pending irq true) ts + raised counts ts
      ≤ owed_pending pending ts + raised (one_more irq counts) ts
  request_raises pending counts irq [] = omega arith
  request_raises pending counts irq (t ∷ ts) =
      let rest = request_raises pending counts irq ts in
      let here : owed_to (slice_set pending irq true) t + raised_by counts t
      ≤ owed_to pending t + raised_by (one_more irq counts) t =
      both_less (nat_le p t.priority) _ _ _ _ (asked_raised pending counts irq (bound_number app t)
      (handling_steps app t))
      in
      omega (arith, rest, here)

  pub take_lowers : (pending : List Bool) (irq : ℕ) (ts : List Task)
      → owed_pending (slice_set pending irq false) ts ≤ owed_pending pending ts
  take_lowers pending irq [] = omega arith
  take_lowers pending irq (t ∷ ts) =
      let rest = take_lowers pending irq ts in
      let here : owed_to (slice_set pending irq false) t ≤ owed_to pending t =
      one_less (nat_le p t.priority) _ _ (asked_cleared pending irq (bound_number app t) (handling_steps app t)) in
      omega (arith, rest, here)

  -- what is asked for a task whose interrupt is pending, and where it is not
  owes_handling : (pending : List Bool) (irq : ℕ) (t : Task) → p ≤ t.priority → bound_number app t ≡ Some irq
      → slice_index_or pending irq false ≡ true → owed_to pending t ≡ handling_steps app t
  owes_handling pending irq t over number set =
      at_priority_is p t.priority (asked pending (bound_number app t) (handling_steps app t)) over
      ∙ ap (λ o. asked pending o (handling_steps app t)) number ∙ ap (λ b. if b then handling_steps app t else 0) set

  owes_none : (pending : List Bool) (irq : ℕ) (t : Task) → p ≤ t.priority → bound_number app t ≡ Some irq
      → slice_index_or pending irq false ≡ false → owed_to pending t ≡ 0
  owes_none pending irq t over number clear =
      at_priority_is p t.priority (asked pending (bound_number app t) (handling_steps app t)) over
      ∙ ap (λ o. asked pending o (handling_steps app t)) number ∙ ap (λ b. if b then handling_steps app t else 0) clear

  -- a take of the interrupt of such a task
  pub take_clears : (pending : List Bool) (irq : ℕ) (ts : List Task) (k : ℕ) (t : Task) → slice_get ts k ≡ Some t
      → p ≤ t.priority → bound_number app t ≡ Some irq → slice_index_or pending irq false ≡ true
      → owed_pending (slice_set pending irq false) ts + handling_steps app t ≤ owed_pending pending ts
  take_clears pending irq [] k t at over number set = absurd (none-some t at)
  take_clears pending irq (u ∷ ts) zero t at over number set =
      let same : u ≡ t = same_Some u t at in
      let before : owed_to pending u ≡ handling_steps app t =
      ap (owed_to pending) same ∙ owes_handling pending irq t over number set in
      let after : owed_to (slice_set pending irq false) u ≡ 0 =
      ap (owed_to (slice_set pending irq false)) same
      ∙ owes_none (slice_set pending irq false) irq t over number (now_cleared pending irq) in
      let rest = take_lowers pending irq ts in
      omega (arith, before, after, rest)
  take_clears pending irq (u ∷ ts) (suc k) t at over number set =
      let rest = take_clears pending irq ts k t at over number set in
      let here = take_lowers pending irq (u ∷ []) in
      omega (arith, rest, here)

  -- a pending interrupt of the priority owes
  pub pending_owes : (pending : List Bool) (irq : ℕ) (ts : List Task) (k : ℕ) (t : Task) → slice_get ts k ≡ Some t
      → p ≤ t.priority → bound_number app t ≡ Some irq → slice_index_or pending irq false ≡ true
      → 0 < owed_pending pending ts
  pending_owes pending irq ts k t at over number set =
      let clears = take_clears pending irq ts k t at over number set in omega (arith, clears)

  pub record IsAsked (pending : List Bool) (ts : List Task) : Type 0 where
    pub index : ℕ
    pub task : Task
    pub at : slice_get ts index ≡ Some task
    pub over : p ≤ task.priority
    pub irq : ℕ
    pub number : bound_number app task ≡ Some irq
    pub set : slice_index_or pending irq false ≡ true

  -- and the other way round
  pub owes_pending : (pending : List Bool) (ts : List Task) → 0 < owed_pending pending ts → IsAsked pending ts
  owes_pending pending [] some = absurd (omega arith)
  owes_pending pending (t ∷ ts) some =
      level_of (λ more. owes_pending pending ts more) (nat_le p t.priority) refl (bound_number app t) refl
    where
      deeper : (0 < owed_pending pending ts → IsAsked pending ts) → owed_to pending t ≡ 0 → IsAsked pending (t ∷ ts)
      deeper next none =
          let one = next (omega (arith, some, none)) in
          record {
            index = suc one.index;
            task = one.task;
            at = one.at;
            over = one.over;
            irq = one.irq;
            number =
                one.number;
            set = one.set;
          }

      set_or_not : (0 < owed_pending pending ts → IsAsked pending ts) → p ≤ t.priority → (n : ℕ) → bound_number app t
          ≡ Some n → (b : Bool) → slice_index_or pending n false ≡ b → IsAsked pending (t ∷ ts)
      set_or_not next over n number true set = record {
        index = 0;
        task = t;
        at = refl;
        over = over;
        irq = n;
        number =
            number;
        set = set;
      }
      set_or_not next over n number false clear = deeper next (owes_none pending n t over number clear)

      numbered : (0 < owed_pending pending ts → IsAsked pending ts) → p ≤ t.priority → (o : Option ℕ)
          → bound_number app t
          ≡ o → IsAsked pending (t ∷ ts)
      numbered next over (Some n) number = set_or_not next over n number (slice_index_or pending n false) refl
      numbered next over None number =
          deeper next (at_priority_is p t.priority (asked pending (bound_number app t) (handling_steps app t)) over
          ∙ ap (λ o. asked pending o (handling_steps app t)) number)

      level_of : (0 < owed_pending pending ts → IsAsked pending ts) → (b : Bool) → nat_le p t.priority ≡ b
          → (o : Option ℕ) → bound_number app t ≡ o → IsAsked pending (t ∷ ts)
      level_of next true test o number = numbered next (leb-true p t.priority test) o number
      level_of next false test o number = deeper next
          (ap (λ b. if b then asked pending (bound_number app t) (handling_steps app t) else 0) test)

  -- no more requests than may begin in so many steps ask for no more than they do
  pub raised_within : (limits : List Limit) (counts : Counts) (steps : ℕ)
      → ((irq : ℕ) → counts irq ≤ requests (every_of limits irq) steps) → (ts : List Task)
      → raised counts ts ≤ sum_by (task_demand app limits p steps) ts
  raised_within limits counts steps few [] = omega arith
  raised_within limits counts steps few (t ∷ ts) =
      let rest = raised_within limits counts steps few ts in
      let here : raised_by counts t ≤ task_demand app limits p steps t =
      one_less (nat_le p t.priority) _ _ (of (bound_number app t)) in
      omega (arith, rest, here, sum_by-cons (task_demand app limits p steps) t ts)
    where
      of : (o : Option ℕ) → counted counts o * handling_steps app t ≤ requests (then_from o (every_of limits)) steps
          * handling_steps app t
      of None = omega arith
      of (Some n) = mul-le-mul_right (handling_steps app t) (few n)

  -- jobs owe where one of them is of the priority, which is then reached
  pub jobs_reach : (js : List Job) → 0 < owed_jobs js → p ≤ system_ceiling app js
  jobs_reach [] some = absurd (omega arith)
  jobs_reach (job ∷ others) some = by (λ more. jobs_reach others more) (nat_le p job.priority) refl
    where
      by : (0 < owed_jobs others → p ≤ system_ceiling app others) → (b : Bool) → nat_le p job.priority ≡ b
          → p ≤ system_ceiling app (job ∷ others)
      by next true test = (let over = leb-true p job.priority test in omega arith)
      by next false test =
          let none : at_priority p job.priority job.left ≡ 0 = ap (λ b. if b then job.left else 0) test in
          let deeper = next (omega (arith, some, none)) in omega arith

  -- nothing is asked for where nothing was requested
  pub raised_none : (ts : List Task) → raised (λ irq. 0) ts ≡ 0
  raised_none [] = refl
  raised_none (t ∷ ts) =
      let rest = raised_none ts in
      let here : raised_by (λ irq. 0) t ≡ 0 = still_none (nat_le p t.priority) _ (of (bound_number app t)) in
      omega (arith, rest, here)
    where
      of : (o : Option ℕ) → counted (λ irq. 0) o * handling_steps app t ≡ 0
      of None = omega arith
      of (Some n) = omega arith

  -- what is pending owes what its requests ask for, where each was made once
  pub pending_raises : (pending : List Bool) (ts : List Task) → owed_pending pending ts ≤ raised (once pending) ts
  pending_raises pending [] = omega arith
  pending_raises pending (t ∷ ts) =
      let rest = pending_raises pending ts in
      let here : owed_to pending t ≤ raised_by (once pending) t =
      one_less (nat_le p t.priority) _ _ (of (bound_number app t)) in
      omega (arith, rest, here)
    where
      by : (b : Bool) → (if b then handling_steps app t else 0) ≤ (if b then 1 else 0) * handling_steps app t
      by true = omega arith
      by false = omega arith

      of : (o : Option ℕ) → asked pending o (handling_steps app t) ≤ counted (once pending) o * handling_steps app t
      of None = omega arith
      of (Some n) = by (slice_index_or pending n false)

-- The core steps that are owed: what started jobs have left, and the whole handling of each interrupt that is pending.
use Rattle.std.proofs.Common.{◌≡◌, ℕ, zero, suc, ◌+◌, ◌-◌, ◌*◌, ◌≤◌, ◌<◌, ◌==◌, Bool, true, false, nat_le}
use Rattle.std.proofs.Common.{if◌then◌else◌, List, [], ◌∷◌, slice_get, slice_set, slice_index_or, Some, refl}
use Rattle.std.proofs.Common.{sym, ap, ◌∙◌, arith, eq-eqb}
use Rattle.std.proofs.lemmas.Bool.{eqb-true, leb-true, le-leb}
use Rattle.std.proofs.lemmas.Option.{same_Some, none-some}
use Rattle.std.proofs.Math.Nat.{mul-le-mul_right}
use Rattle.rt_lemmas.proofs.Bools.{true_and_false}
use Rattle.rt_lemmas.proofs.Indices.{now_cleared}
use Rattle.rt_rta.specs.Response.{most_requests}
use Rattle.rt_rta.proofs.Owing.{Counts, one_more, once, other_set}
use Rattle.rt_timely.specs.Watching.{Whose, Init, Thread, Handler as HandlerOf, SeenJob}
use Rattle.rt_image_times_laws.proofs.Asks.{Ask, steps_in, handling, demand}

-- of a pending interrupt a whole handling is owed
abbrev pub asked : List Bool → Ask → ℕ
asked pending a = if slice_index_or pending a.irq false then handling a else 0

abbrev pub owed_pending : List Bool → List Ask → ℕ
owed_pending pending [] = 0
owed_pending pending (a ∷ all) = asked pending a + owed_pending pending all

-- what so many requests of each interrupt ask for
abbrev pub raised : Counts → List Ask → ℕ
raised counts [] = 0
raised counts (a ∷ all) = counts a.irq * handling a + raised counts all

-- whether it is a job of an interrupt
abbrev pub is_of : Whose → ℕ → Bool
is_of Init irq = false
is_of Thread irq = false
is_of (HandlerOf own) irq = own == irq

-- what a job has left that has taken so many steps
abbrev pub job_left : Whose → ℕ → Ask → ℕ
job_left whose steps a = if is_of whose a.irq then steps_in a.longest - steps else 0

abbrev pub left_of : Whose → ℕ → List Ask → ℕ
left_of whose steps [] = 0
left_of whose steps (a ∷ all) = job_left whose steps a + left_of whose steps all

-- what counts in one case alone is no more than what it is no more than there
at_most : (b : Bool) (n m : ℕ) → n ≤ m → (if b then n else 0) ≤ m
at_most true n m within = within
at_most false n m within = omega arith

module _ (pending : List Bool) (irq : ℕ) where
  -- a request raises what is asked for by a handling at most
  asked_raised : (counts : Counts) (a : Ask)
      → asked (slice_set pending irq true) a + counts a.irq * handling a
      ≤ asked pending a + one_more irq counts a.irq * handling a
  asked_raised counts a = by (a.irq == irq) refl
    where
      now : ℕ
      now = asked (slice_set pending irq true) a

      by : (b : Bool) → (a.irq == irq) ≡ b → now + counts a.irq * handling a
          ≤ asked pending a + (if b then suc (counts a.irq) else counts a.irq) * handling a
      by true test =
          let most : now ≤ handling a =
          at_most (slice_index_or (slice_set pending irq true) a.irq false) (handling a) (handling a) (omega arith) in
          let more : suc (counts a.irq) * handling a ≡ counts a.irq * handling a + handling a = omega arith in
          omega (arith, most, more)
      by false test =
          let same : now ≡ asked pending a =
          ap (λ b. if b then handling a else 0)
          (other_set pending irq a.irq true (λ e. true_and_false (a.irq == irq) (eq-eqb a.irq irq e) test)) in
          omega (arith, same)

  pub request_raises : (counts : Counts) (all : List Ask)
      → owed_pending (slice_set pending irq true) all + raised counts all
      ≤ owed_pending pending all + raised (one_more irq counts) all
  request_raises counts [] = omega arith
  request_raises counts (a ∷ all) =
      let rest = request_raises counts all in
      let here = asked_raised counts a in
      omega (arith, rest, here)

  -- a take turns a handling that is asked for into a job, which has one step less
  asked_taken : slice_index_or pending irq false ≡ true → (a : Ask)
      → asked (slice_set pending irq false) a + job_left (HandlerOf irq) 0 a + (if a.irq == irq then 1 else 0)
      ≤ asked pending a
  asked_taken set a = by (a.irq == irq) refl
    where
      by : (b : Bool) → (a.irq == irq) ≡ b
          → asked (slice_set pending irq false) a + job_left (HandlerOf irq) 0 a + (if b then 1 else 0)
          ≤ asked pending a
      by true test =
          let same : a.irq ≡ irq = eqb-true a.irq irq test in
          let none : asked (slice_set pending irq false) a ≡ 0 =
          ap (λ b. if b then handling a else 0) (ap (λ i. slice_index_or (slice_set pending irq false) i false) same
          ∙ now_cleared pending irq) in
          let whole : asked pending a ≡ handling a =
          ap (λ b. if b then handling a else 0) (ap (λ i. slice_index_or pending i false) same ∙ set) in
          let job : job_left (HandlerOf irq) 0 a ≤ steps_in a.longest =
          at_most (irq == a.irq) (steps_in a.longest - 0) (steps_in a.longest) (omega arith) in
          omega (arith, none, whole, job)
      by false test =
          let same : asked (slice_set pending irq false) a ≡ asked pending a =
          ap (λ b. if b then handling a else 0)
          (other_set pending irq a.irq false (λ e. true_and_false (a.irq == irq) (eq-eqb a.irq irq e) test)) in
          let none : job_left (HandlerOf irq) 0 a ≡ 0 =
          none_of (irq == a.irq) refl in
          omega (arith, same, none)
        where
          none_of : (b : Bool) → (irq == a.irq) ≡ b → (if b then steps_in a.longest - 0 else 0) ≡ 0
          none_of true is =
              absurd (true_and_false (a.irq == irq) (eq-eqb a.irq irq (sym (eqb-true irq a.irq is))) test)
          none_of false is = refl

  pub take_lowers : slice_index_or pending irq false ≡ true → (all : List Ask)
      → owed_pending (slice_set pending irq false) all + left_of (HandlerOf irq) 0 all ≤ owed_pending pending all
  take_lowers set [] = omega arith
  take_lowers set (a ∷ all) =
      let rest = take_lowers set all in
      let here = asked_taken set a in
      omega (arith, rest, here)

  -- strictly, where it asks for something
  pub take_spends : slice_index_or pending irq false ≡ true → (all : List Ask) (i : ℕ) (a : Ask)
      → slice_get all i ≡ Some a → a.irq ≡ irq
      → owed_pending (slice_set pending irq false) all + left_of (HandlerOf irq) 0 all + 1 ≤ owed_pending pending all
  take_spends set [] i a at same = absurd (none-some a at)
  take_spends set (b ∷ all) zero a at same =
      let here = asked_taken set b in
      let own : b.irq ≡ irq = ap (λ (c : Ask). c.irq) (same_Some b a at) ∙ same in
      let one : ◌≡◌ {A = ℕ} (if b.irq == irq then 1 else 0) 1 =
      ap (λ (t : Bool). if t then suc zero else zero) (eq-eqb b.irq irq own) in
      let rest = take_lowers set all in
      omega (arith, here, one, rest)
  take_spends set (b ∷ all) (suc i) a at same =
      let here = asked_taken set b in
      let rest = take_spends set all i a at same in
      omega (arith, here, rest)

  -- a pending interrupt that asks for something owes
  pub pending_owes : (all : List Ask) (i : ℕ) (a : Ask) → slice_get all i ≡ Some a → a.irq ≡ irq
      → slice_index_or pending irq false ≡ true → 0 < owed_pending pending all
  pending_owes all i a at same set = let spends = take_spends set all i a at same in omega (arith, spends)

-- a step of a job lowers what it has left
module _ (whose : Whose) (steps : ℕ) where
  one_left : (a : Ask) → job_left whose (suc steps) a ≤ job_left whose steps a
  one_left a = by (is_of whose a.irq)
    where
      by : (b : Bool)
          → (if b then steps_in a.longest - suc steps else 0) ≤ (if b then steps_in a.longest - steps else 0)
      by true = omega arith
      by false = omega arith

  pub step_lowers : (all : List Ask) → left_of whose (suc steps) all ≤ left_of whose steps all
  step_lowers [] = omega arith
  step_lowers (a ∷ all) = let rest = step_lowers all in let here = one_left a in omega (arith, rest, here)

  -- strictly, where it has more steps to take
  pub step_spends : (all : List Ask) (i : ℕ) (a : Ask) → slice_get all i ≡ Some a → is_of whose a.irq ≡ true
      → steps < steps_in a.longest → left_of whose (suc steps) all + 1 ≤ left_of whose steps all
  step_spends [] i a at own less = absurd (none-some a at)
  step_spends (b ∷ all) zero a at own less =
      let same : b ≡ a = same_Some b a at in
      let mine : is_of whose b.irq ≡ true = ap (λ (c : Ask). is_of whose c.irq) same ∙ own in
      let most : steps_in b.longest ≡ steps_in a.longest = ap (λ (c : Ask). steps_in c.longest) same in
      let now : job_left whose (suc steps) b ≡ steps_in b.longest - suc steps =
      ap (λ t. if t then steps_in b.longest - suc steps else 0) mine in
      let was : job_left whose steps b ≡ steps_in b.longest - steps =
      ap (λ t. if t then steps_in b.longest - steps else 0) mine in
      let rest = step_lowers all in
      omega (arith, most, now, was, rest, less)
  step_spends (b ∷ all) (suc i) a at own less =
      let here = one_left b in let rest = step_spends all i a at own less in omega (arith, here, rest)

  pub job_owes : (all : List Ask) (i : ℕ) (a : Ask) → slice_get all i ≡ Some a → is_of whose a.irq ≡ true
      → steps < steps_in a.longest → 0 < left_of whose steps all
  job_owes all i a at own less = let spends = step_spends all i a at own less in omega (arith, spends)

-- nothing is asked for where nothing was requested
pub raised_none : (all : List Ask) → raised (λ irq. 0) all ≡ 0
raised_none [] = refl
raised_none (a ∷ all) = let rest = raised_none all in omega (arith, rest)

-- what is pending owes what its requests ask for, where each was made once
pub pending_raises : (pending : List Bool) (all : List Ask) → owed_pending pending all ≤ raised (once pending) all
pending_raises pending [] = omega arith
pending_raises pending (a ∷ all) =
    let rest = pending_raises pending all in
    let here = by (slice_index_or pending a.irq false) in
    omega (arith, rest, here)
  where
    by : (b : Bool) → (if b then handling a else 0) ≤ (if b then 1 else 0) * handling a
    by true = omega arith
    by false = omega arith

-- no more requests than may begin in so many steps ask for no more than they do
pub raised_within : (counts : Counts) (steps : ℕ) (all : List Ask)
    → ((i : ℕ) (a : Ask) → slice_get all i ≡ Some a → counts a.irq ≤ most_requests steps a.every)
    → raised counts all ≤ demand steps all
raised_within counts steps [] few = omega arith
raised_within counts steps (a ∷ all) few =
    let rest = raised_within counts steps all (λ i b at. few (suc i) b at) in
    let here = mul-le-mul_right (handling a) (few 0 a refl) in
    omega (arith, rest, here)

-- of jobs, to a priority value
module _ (value : ℕ) (all : List Ask) where
  abbrev pub owed_job : SeenJob → ℕ
  owed_job job = if nat_le job.value value then left_of job.whose job.steps all else 0

  abbrev pub owed_jobs : List SeenJob → ℕ
  owed_jobs [] = 0
  owed_jobs (job ∷ others) = owed_job job + owed_jobs others

  abbrev pub owed : List Bool → List SeenJob → ℕ
  owed pending jobs = owed_jobs jobs + owed_pending pending all

  pub owed_job_is : (job : SeenJob) → job.value ≤ value → owed_job job ≡ left_of job.whose job.steps all
  owed_job_is job high = ap (λ b. if b then left_of job.whose job.steps all else 0) (le-leb job.value value high)

  pub owed_job_most : (job : SeenJob) → owed_job job ≤ left_of job.whose job.steps all
  owed_job_most job =
      let most = left_of job.whose job.steps all in at_most (nat_le job.value value) most most (omega arith)

  -- jobs owe where one of them is of the priority
  pub record IsHigh (jobs : List SeenJob) : Type 0 where
    pub index : ℕ
    pub job : SeenJob
    pub at : slice_get jobs index ≡ Some job
    pub high : job.value ≤ value

  pub high_among : (jobs : List SeenJob) → 0 < owed_jobs jobs → IsHigh jobs
  high_among [] some = absurd (omega (arith, some))
  high_among (job ∷ others) some = by (λ more. high_among others more) (nat_le job.value value) refl
    where
      by : (0 < owed_jobs others → IsHigh others) → (b : Bool) → nat_le job.value value ≡ b → IsHigh (job ∷ others)
      by deeper true test = record { index = 0; job = job; at = refl; high = leb-true job.value value test }
      by deeper false test =
          let none : owed_job job ≡ 0 = ap (λ b. if b then left_of job.whose job.steps all else 0) test in
          let one = deeper (omega (arith, some, none)) in
          record { index = suc one.index; job = one.job; at = one.at; high = one.high }

-- something pending asks
pub record IsAsked (pending : List Bool) (all : List Ask) : Type 0 where
  pub index : ℕ
  pub ask : Ask
  pub at : slice_get all index ≡ Some ask
  pub set : slice_index_or pending ask.irq false ≡ true

pub asked_among : (pending : List Bool) (all : List Ask) → 0 < owed_pending pending all → IsAsked pending all
asked_among pending [] some = absurd (omega (arith, some))
asked_among pending (a ∷ all) some = by (λ more. asked_among pending all more) (slice_index_or pending a.irq false) refl
  where
    by : (0 < owed_pending pending all → IsAsked pending all) → (b : Bool) → slice_index_or pending a.irq false ≡ b
        → IsAsked pending (a ∷ all)
    by deeper true set = record { index = 0; ask = a; at = refl; set = set }
    by deeper false clear =
        let none : asked pending a ≡ 0 = ap (λ b. if b then handling a else 0) clear in
        let one = deeper (omega (arith, some, none)) in
        record { index = suc one.index; ask = one.ask; at = one.at; set = one.set }

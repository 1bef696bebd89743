-- What holds of the jobs of every run, and how a step changes the stack: each job has sections within its priority,
-- does what is well formed, and stands above the system ceiling of the jobs below it; and what is seen of a job is what
-- it is.
use Rattle.std.proofs.Common.{◌≡◌, ℕ, suc, ◌-◌, ◌≤◌, ◌<◌, ◌^◌, List, [], ◌∷◌, length, drop, map, Option, Some}
use Rattle.std.proofs.Common.{option_map, IfSome, refl, sym, ap, subst, ◌∙◌, arith, length-drop}
use Rattle.std.specs.List.{AllByRecursion}
use Rattle.std.proofs.lemmas.List.{length-map}
use Rattle.rt_lemmas.proofs.Options.{if_some_weaker, if_some-map}
use Rattle.rt_actions.specs.Content.{Values}
use Rattle.rt_actions.specs.Doing.{Doing, over, does}
use Rattle.rt_ids.specs.declared.ids.Section.{Section}
use Rattle.rt_trace.specs.declared.item.What.{What}
use Rattle.rt_trace.specs.declared.item.What.TheVariants as what
use Rattle.rt_app.specs.Tree.{App}
use Rattle.rt_app.specs.Ceiling.{ceiling}
use Rattle.rt_app.specs.Waiting.{waiting_bound}
use Rattle.rt_laws.specs.Services.{priority_of}
use Rattle.rt_laws.specs.State.{Role, Init, Idle, Waiting, Serving, Job, State, new_job}
use Rattle.rt_laws.specs.Preemption.{system_ceiling}
use Rattle.rt_laws.specs.Acting.{job_after_step}
use Rattle.rt_laws.specs.Observer.{Seen, Observer, outside, seen_after_enter, seen_after_leave}
use Rattle.rt_laws.specs.Waiting.{outermost}
use Rattle.rt_laws.specs.Queues.{InQueue, KeepsOrder}
use Rattle.rt_laws.proofs.Handled.{all_drop}
use Rattle.rt_laws.proofs.Fine.{SameOpen, Queued, Within, EntersFine, IsFine}
use Rattle.rt_laws.proofs.Outermost.{outermost_map, outermost_drop, outermost_more, outermost_kept, outermost_grown}
use Rattle.rt_laws.proofs.Outermost.{Behind, behind_is}

abbrev pub WithinAll : App → Role → ℕ → List Section → Type 0
WithinAll app role q xs = AllByRecursion (λ x. Within role q (ceiling app x)) xs

-- What a section that holds a priority off has left at most, behind its `enter`, which is one of its steps.
abbrev pub most_left : App → ℕ → ℕ
most_left app p = waiting_bound app p - 1

-- of each priority above it that there is, the outermost section that holds it off has no more left than that
abbrev pub IsBounded : App → ℕ → List Section → List ℕ → Type 0
IsBounded app q xs ns = (p : ℕ) → q < p → p ≤ 2 ^ app.bits
    → IfSome (outermost app p xs ns) (λ left. left ≤ most_left app p)

pub record JobWell (app : App) (job : Job) (seen : Seen) : Type 0 where
  pub priority : seen.priority ≡ job.priority
  pub inside : seen.inside ≡ job.sections
  pub long : length seen.since ≡ length job.sections
  pub lefts : length job.lefts ≡ length job.sections
  -- behind an action with this answer and these values
  pub answered : ℕ
  pub base : Values
  pub fine : IsFine app job.role job.priority answered job.sections base job.rest
  pub within : WithinAll app job.role job.priority job.sections
  pub bounded : IsBounded app job.priority job.sections job.lefts

-- the handling of an interrupt stands above the system ceiling of what is below it; the thread stands at the bottom
abbrev pub IsAbove : App → Role → ℕ → List Job → Type 0
IsAbove app Init q others = others ≡ []
IsAbove app (Serving irq) q others = (priority_of app irq ≡ q) × (system_ceiling app others < q)
IsAbove app role q others = (others ≡ []) × (q ≡ 0)

abbrev pub StackWell : App → List Job → List Seen → Type 0
StackWell app [] [] = Unit {0}
StackWell app [] (seen ∷ seens) = ⊥
StackWell app (job ∷ others) [] = ⊥
StackWell app (job ∷ others) (seen ∷ seens) =
    JobWell app job seen × IsAbove app job.role job.priority others × StackWell app others seens

-- A job's next action keeps the order of its queue, and the queues whose sections it has open hold what they held as it
-- came to that action.
abbrev pub NextKept : App → ℕ → Values → List Section → Doing Values → Type 0
NextKept app time vs sections over = Unit {0}
NextKept app time vs sections (does action made next) =
    InQueue sections action × KeepsOrder app time vs action × SameOpen sections vs made

abbrev pub AllKept : App → ℕ → Values → List Job → Type 0
AllKept app time vs [] = Unit {0}
AllKept app time vs (job ∷ others) = NextKept app time vs job.sections job.rest × AllKept app time vs others

pub record StateWell (app : App) (s : State) (v : Observer) : Type 0 where
  pub stack : StackWell app s.jobs v.jobs
  pub pending : v.pending ≡ s.pending
  pub queued : Queued app s.values
  pub order : AllKept app s.time s.values s.jobs

abbrev pub IsThread : Role → Type 0
IsThread (Serving irq) = ⊥
IsThread role = Unit {0}

-- nothing is below the thread
pub alone_at_bottom : (app : App) (role : Role) (q : ℕ) (others : List Job) → IsThread role
    → IsAbove app role q others → others ≡ []
alone_at_bottom app Init q others thread above = above
alone_at_bottom app Idle q others thread above = above.0
alone_at_bottom app Waiting q others thread above = above.0
alone_at_bottom app (Serving irq) q others thread above = absurd thread

-- a step brings each section a step nearer to its leaving
abbrev pub Nearer : App → Job → Seen → Job → Seen → Type 0
Nearer app job seen after shown =
    (p left entered : ℕ) → outermost app p job.sections job.lefts ≡ Some left
    → outermost app p seen.inside seen.since ≡ Some entered
    → Behind entered (left - 1) (outermost app p after.sections after.lefts) (outermost app p shown.inside shown.since)

-- how a step of the running job changes the stack, where it gives this item or none
module _ (app : App) (job : Job) (seen : Seen) (others : List Job) (seens : List Seen) (given : Option What)
    (jobs : List Job) (views : List Seen) where
  pub data Changes : Type 0 where
    -- it goes on
    GoesOn : (after : Job) → (shown : Seen) → jobs ≡ after ∷ others → views ≡ shown ∷ seens → after.role ≡ job.role
        → after.priority ≡ job.priority
        → Nearer app job seen after shown → Changes
    -- the thread begins anew, outside all sections
    Restarts : (after : Job) → (shown : Seen) → jobs ≡ after ∷ others → views ≡ shown ∷ seens → IsThread job.role
        → after.sections ≡ [] → Changes
    -- the handling of an interrupt returns
    ComesBack : (irq : ℕ) → jobs ≡ others → views ≡ seens → job.role ≡ Serving irq → given ≡ Some (what.Ret irq)
        → Changes

module _ (app : App) where
  -- a job as it begins
  pub begun_well : (role : Role) (q cost n : ℕ) (base : Values) (rest : Doing Values) → IsFine app role q n [] base rest
      → JobWell app (new_job role q cost rest) (outside q)
  begun_well role q cost n base rest fine = record {
    answered = n;
    base = base;
    priority = refl;
    inside = refl;
    long = refl;
    lefts = refl;
    fine = fine;
    within = tt;
    bounded = λ p above top. tt;
  }

  module _ (job : Job) (seen : Seen) (well : JobWell app job seen) where
    abbrev after_rest : Doing Values → Job
    after_rest rest = record (job_after_step job) { rest = rest }

    bounded_spent : IsBounded app job.priority job.sections (map (λ n. n - 1) job.lefts)
    bounded_spent p above top =
        subst (λ o. IfSome o (λ left. left ≤ most_left app p))
        (sym (outermost_map app p (λ n. n - 1) job.sections job.lefts))
        (if_some-map (λ n. n - 1) (λ left. left ≤ most_left app p) (outermost app p job.sections job.lefts)
        (if_some_weaker (outermost app p job.sections job.lefts)
        (λ n (less : n ≤ most_left app p). less_one n (most_left app p) less) (well.bounded p above top)))
      where
        less_one : (n w : ℕ) → n ≤ w → n - 1 ≤ w
        less_one n w less = omega arith

    lefts_spent : length (map (λ n. n - 1) job.lefts) ≡ length job.sections
    lefts_spent = length-map job.lefts (λ n. n - 1) ∙ well.lefts

    spent_is : (p left : ℕ) → outermost app p job.sections job.lefts ≡ Some left
        → outermost app p job.sections (map (λ n. n - 1) job.lefts) ≡ Some (left - 1)
    spent_is p left is = outermost_map app p (λ n. n - 1) job.sections job.lefts ∙ ap (option_map (λ n. n - 1)) is

    -- it goes on in its sections
    pub spends_well : (rest : Doing Values) (n : ℕ) (base : Values)
        → IsFine app job.role job.priority n job.sections base rest
        → JobWell app (after_rest rest) seen
    spends_well rest n base fine = record {
      answered = n;
      base = base;
      priority = well.priority;
      inside = well.inside;
      long = well.long;
      lefts = lefts_spent;
      fine = fine;
      within = well.within;
      bounded = bounded_spent;
    }

    pub spends_nearer : (rest : Doing Values) → Nearer app job seen (after_rest rest) seen
    spends_nearer rest p left entered is since =
        behind_is entered (left - 1) (left - 1) (outermost app p job.sections (map (λ n. n - 1) job.lefts))
        (outermost app p seen.inside seen.since) (spent_is p left is) since (omega arith)

    -- it enters a section
    abbrev after_enter : Section → ℕ → Doing Values → Job
    after_enter x cost rest = record
        (job_after_step job) {
          rest = rest;
          sections = x ∷ job.sections;
          lefts =
              (cost - 1) ∷ (job_after_step job).lefts;
        }

    pub enters_well : (x : Section) (cost step : ℕ) (rest : Doing Values) (n : ℕ) (base : Values)
        → EntersFine app job.role job.priority job.sections x cost
        → IsFine app job.role job.priority n (x ∷ job.sections) base rest
        → JobWell app (after_enter x cost rest) (seen_after_enter x step seen)
    enters_well x cost step rest n base enters fine = record {
      answered = n;
      base = base;
      priority = well.priority;
      inside = ap (λ xs. x ∷ xs) well.inside;
      long = ap suc well.long;
      lefts = ap suc lefts_spent;
      fine = fine;
      within = (enters.within, well.within);
      bounded = λ p above top.
          outermost_more app p (λ left. left ≤ most_left app p) x (cost - 1) job.sections
          (map (λ n. n - 1) job.lefts) lefts_spent (omega arith)
          (λ outer within. less cost (waiting_bound app p) (enters.counted p above top outer within))
          (bounded_spent p above top);
    }
      where
        less : (n w : ℕ) → n ≤ w → n - 1 ≤ w - 1
        less n w h = omega arith

    pub enters_nearer : (x : Section) (cost step : ℕ) (rest : Doing Values)
        → Nearer app job seen (after_enter x cost rest) (seen_after_enter x step seen)
    enters_nearer x cost step rest p left entered is since =
        behind_is entered (left - 1) (left - 1)
        (outermost app p (x ∷ job.sections) ((cost - 1) ∷ map (λ n. n - 1) job.lefts))
        (outermost app p (x ∷ seen.inside) (step ∷ seen.since))
        (outermost_grown app p x (cost - 1) (left - 1) job.sections (map (λ n. n - 1) job.lefts) (spent_is p left is))
        (outermost_grown app p x step entered seen.inside seen.since since) (omega arith)

    -- it leaves its innermost section
    abbrev after_leave : Doing Values → Job
    after_leave rest = record (job_after_step job)
        { rest = rest; sections = drop 1 job.sections; lefts = drop 1 (job_after_step job).lefts }

    pub leaves_well : (rest : Doing Values) (n : ℕ) (base : Values)
        → IsFine app job.role job.priority n (drop 1 job.sections) base rest
        → JobWell app (after_leave rest) (seen_after_leave seen)
    leaves_well rest n base fine = record {
      answered = n;
      base = base;
      priority = well.priority;
      inside = ap (drop 1) well.inside;
      long = length-drop 1 seen.since ∙ ap (λ n. n - 1) well.long ∙ sym (length-drop 1 job.sections);
      lefts = length-drop 1 (map (λ n. n - 1) job.lefts) ∙ ap (λ n. n - 1) lefts_spent
          ∙ sym (length-drop 1 job.sections);
      fine = fine;
      within = all_drop (λ x. Within job.role job.priority (ceiling app x)) 1 job.sections well.within;
      bounded = λ p above top. outermost_drop app p (λ left. left ≤ most_left app p) job.sections
          (map (λ n. n - 1) job.lefts) lefts_spent (bounded_spent p above top);
    }

    pub leaves_nearer : (rest : Doing Values) → Nearer app job seen (after_leave rest) (seen_after_leave seen)
    leaves_nearer rest p left entered is since =
        outermost_kept app p entered (left - 1) job.sections (map (λ n. n - 1) job.lefts) seen.inside seen.since
        (sym well.inside) lefts_spent well.long (spent_is p left is) since

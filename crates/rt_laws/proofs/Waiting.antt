-- A job waits for one outermost section of one lower job.
use Rattle.std.proofs.Common.{◌≡◌, ℕ, ◌-◌, ◌≤◌, ◌<◌, ◌^◌, nat_lt, Bool, true, false, if◌then◌else◌, List, [], ◌∷◌}
use Rattle.std.proofs.Common.{◌++◌, length, take, slice_index_or, Option, Some, None, IfSome, refl, sym, ap, subst, ◌∙◌}
use Rattle.std.proofs.Common.{arith, eq-eqb, ◌⊎◌, inl, inr}
use Rattle.std.specs.List.{AllByRecursion}
use Rattle.std.proofs.lemmas.Bool.{ltb-true, ltb-false, lt-ltb}
use Rattle.rt_lemmas.proofs.Bools.{true_and_false}
use Rattle.rt_lemmas.proofs.Lists.{find_has}
use Rattle.rt_ids.specs.declared.ids.BodyId.TheVariants as body
use Rattle.rt_trace.specs.Label.{Label, Arrived, Ticked, Rang, Stepped}
use Rattle.rt_trace.specs.declared.item.What.{What}
use Rattle.rt_trace.specs.declared.item.What.TheVariants as what
use Rattle.rt_app.specs.Tree.{App}
use Rattle.rt_app.specs.Waiting.{waiting_bound}
use Rattle.rt_app.specs.Accepted.{IsAccepted}
use Rattle.rt_app.specs.Handlers.{Service, services}
use Rattle.rt_app.proofs.Sound.{accepted_are_sound}
use Rattle.rt_laws.specs.Services.{service_at, priority_of, timer_number}
use Rattle.rt_laws.specs.State.{Role, Init, Idle, Waiting, Serving, Job, State}
use Rattle.rt_laws.specs.Preemption.{system_ceiling, greatest_ceiling, candidate}
use Rattle.rt_laws.specs.Allowed.{May, after}
use Rattle.rt_laws.specs.Observer.{Seen, Observer, sees}
use Rattle.rt_laws.specs.Waiting.{stepper, steppers, lower, is_take, outermost, LieInOneSection, is_pending}
use Rattle.rt_laws.specs.DeviceWords.{WithWords, One, Puts, things, state_after_put, RunsBeside}
use Rattle.rt_laws.proofs.Outermost.{none_outermost, below_outermost, both_outermost, outermost_all, Behind}
use Rattle.rt_laws.proofs.Well.{most_left, alone_at_bottom, JobWell, IsAbove, StackWell, StateWell, IsThread, Changes}
use Rattle.rt_laws.proofs.Well.{GoesOn, Restarts, ComesBack}
use Rattle.rt_laws.proofs.Pending.{still_set, still_beside, held_off, goes_first, starts_above}
use Rattle.rt_laws.proofs.Happens.{Happens, Quietly, ByTake, ByStep, happens, after_well}
use Rattle.rt_laws.proofs.Beside.{put_well}

-- Down to the first job below a priority: no section of it holds the priority off, or the outermost that does was
-- entered in this step and has at most so many steps left.
abbrev pub Low : App → ℕ → ℕ → ℕ → List Job → List Seen → Type 0
Low app p entered left [] seens = Unit {0}
Low app p entered left (job ∷ others) [] = Unit {0}
Low app p entered left (job ∷ others) (seen ∷ seens) =
    (job.priority < p → Behind entered left (outermost app p job.sections job.lefts)
    (outermost app p seen.inside seen.since))
    × (p ≤ job.priority → Low app p entered left others seens)

-- these steps lie in the section that was entered then, and are no more than this
abbrev Lie : App → ℕ → ℕ → ℕ → List Seen → Type 0
Lie app p entered left steps =
    AllByRecursion (λ job. outermost app p job.inside job.since ≡ Some entered) steps × (length steps ≤ left)

behind_more : (entered n m : ℕ) (o since : Option ℕ) → Behind entered n o since → n ≤ m → Behind entered m o since
behind_more entered n m None since h less = tt
behind_more entered n m (Some k) since h less = let few = h.1 in (h.0, omega arith)

behind_none : (entered n : ℕ) (o since : Option ℕ) → o ≡ None → Behind entered n o since
behind_none entered n o since none = subst (λ u. Behind entered n u since) (sym none) tt

-- it stays pending until its take
pub pending_stays : (app : App) (irq : ℕ) (v : Observer) (label : Label)
    → ((j d : ℕ) → label ≡ Stepped (Some (what.Take j d)) → ¬ (j ≡ irq)) → is_pending v irq ≡ true
    → is_pending (sees app v label) irq ≡ true
pending_stays app irq v (Arrived i) other h = still_set v.pending i irq h
pending_stays app irq v Ticked other h = h
pending_stays app irq v Rang other h = still_set v.pending (timer_number app) irq h
pending_stays app irq v (Stepped None) other h = h
pending_stays app irq v (Stepped (Some (what.Take j d))) other h = still_beside v.pending j irq false (other j d refl) h
pending_stays app irq v (Stepped (Some (what.Post i))) other h = still_set v.pending i irq h
pending_stays app irq v (Stepped (Some what.Alarm)) other h = still_set v.pending (timer_number app) irq h
pending_stays app irq v (Stepped (Some (what.End body.Init))) other h = h
pending_stays app irq v (Stepped (Some w)) other h = h

-- the steppers behind a label that does not end them
pub steppers_on : (app : App) (ends : Label → Bool) (v : Observer) (label : Label) (labels : List Label)
    (steps : List Seen) → ends label ≡ false → stepper v label ≡ steps
    → steppers app ends v (label ∷ labels) ≡ steps ++ steppers app ends (sees app v label) labels
steppers_on app ends v label labels steps goes_on is =
    ap (λ b. if b then [] else stepper v label ++ steppers app ends (sees app v label) labels) goes_on
    ∙ ap (λ xs. xs ++ steppers app ends (sees app v label) labels) is

pub steppers_ended : (app : App) (ends : Label → Bool) (v : Observer) (label : Label) (labels : List Label)
    → ends label ≡ true → steppers app ends v (label ∷ labels) ≡ []
steppers_ended app ends v label labels ended =
    ap (λ b. if b then [] else stepper v label ++ steppers app ends (sees app v label) labels) ended

pub not_lower : (p : ℕ) (seen : Seen) (steps : List Seen) → p ≤ seen.priority → lower p (seen ∷ steps) ≡ lower p steps
not_lower p seen steps above = by (nat_lt seen.priority p) refl
  where
    by : (b : Bool) → nat_lt seen.priority p ≡ b → (if b then seen ∷ lower p steps else lower p steps) ≡ lower p steps
    by true below = (let less = ltb-true seen.priority p below in absurd (omega arith))
    by false test = refl

is_lower : (p : ℕ) (seen : Seen) (steps : List Seen) → seen.priority < p → lower p (seen ∷ steps) ≡ seen ∷ lower p steps
is_lower p seen steps below = ap (λ b. if b then seen ∷ lower p steps else lower p steps) (lt-ltb seen.priority p below)

abbrev pub first_of : List Seen → List Seen
first_of views = take 1 views

module _ (app : App) (p : ℕ) (positive : 0 < p) where
  -- where the system ceiling is below it no section holds it off
  low_below : (entered left : ℕ) (js : List Job) (vs : List Seen) → system_ceiling app js < p
      → Low app p entered left js vs
  low_below entered left [] vs below = tt
  low_below entered left (job ∷ others) [] below = tt
  low_below entered left (job ∷ others) (seen ∷ seens) below =
      let closed : greatest_ceiling app job.sections < p = omega arith in (
        λ lower. behind_none entered left (outermost app p job.sections job.lefts)
            (outermost app p seen.inside seen.since) (below_outermost app p job.sections job.lefts closed),
        λ above. absurd (omega arith),
      )

  pub low_start : (js : List Job) (vs : List Seen) → StackWell app js vs → p ≤ 2 ^ app.bits
      → (entered : ℕ) × Low app p entered (most_left app p) js vs
  low_start [] vs stack top = (0, tt)
  low_start (job ∷ others) [] stack top = (0, tt)
  low_start (job ∷ others) (seen ∷ seens) stack top =
      by (nat_lt job.priority p) refl (low_start others seens stack.2 top)
    where
      well : JobWell app job seen
      well = stack.0

      first : job.priority < p → (o : Option ℕ) → outermost app p job.sections job.lefts ≡ o
          → IfSome o (λ left. left ≤ most_left app p)
          → (entered : ℕ) × Behind entered (most_left app p) o (outermost app p seen.inside seen.since)
      first below None is bounded = (0, tt)
      first below (Some n) is bounded =
          let other = both_outermost app p job.sections job.lefts seen.since n well.long is in
          (other.0, (ap (λ xs. outermost app p xs seen.since) well.inside ∙ other.1, bounded))

      by : (b : Bool) → nat_lt job.priority p ≡ b → (entered : ℕ) × Low app p entered (most_left app p) others seens
          → (entered : ℕ) × Low app p entered (most_left app p) (job ∷ others) (seen ∷ seens)
      by true test deeper =
          let below : job.priority < p = ltb-true job.priority p test in
          let here = first below (outermost app p job.sections job.lefts) refl (well.bounded p below top) in
          (here.0, ((λ lower. here.1), (λ above. absurd (omega arith))))
      by false test deeper =
          let above : p ≤ job.priority = ltb-false job.priority p test in
          (deeper.0, ((λ lower. absurd (omega arith)), (λ higher. deeper.1)))

  -- what a step of the running job is for those that wait
  module _ (entered left : ℕ) (seen : Seen) (jobs : List Job) (views : List Seen) where
    pub data Took : Type 0 where
      Higher : p ≤ seen.priority → Low app p entered left jobs views → Took
      Lower : seen.priority < p → outermost app p seen.inside seen.since ≡ Some entered → 0 < left
          → Low app p entered (left - 1) jobs views → Took

  ceiling_below : (role : Role) (q : ℕ) (others : List Job) → IsAbove app role q others → q < p
      → system_ceiling app others < p
  ceiling_below Init q others above less = subst (λ js. system_ceiling app js < p) (sym above) positive
  ceiling_below Idle q others above less = subst (λ js. system_ceiling app js < p) (sym above.0) positive
  ceiling_below Waiting q others above less = subst (λ js. system_ceiling app js < p) (sym above.0) positive
  ceiling_below (Serving irq) q others above less = let under = above.1 in omega arith

  module _ (entered left : ℕ) (job : Job) (others : List Job) (seen : Seen) (seens : List Seen)
      (well : JobWell app job seen) (above : IsAbove app job.role job.priority others)
      (low : Low app p entered left (job ∷ others) (seen ∷ seens)) where
    -- a job that begins anew is outside all sections, and none is below it
    anew : (n : ℕ) (new : Job) (shown : Seen) → IsThread job.role → new.sections ≡ []
        → Low app p entered n (new ∷ others) (shown ∷ seens)
    anew n new shown thread closed = (
      λ lower. behind_none entered n (outermost app p new.sections new.lefts)
          (outermost app p shown.inside shown.since) (ap (λ xs. outermost app p xs new.lefts) closed),
      λ higher. subst (λ js. Low app p entered n js seens)
          (sym (alone_at_bottom app job.role job.priority others thread above)) tt,
    )

    higher_after : p ≤ job.priority → (given : Option What) (jobs : List Job) (views : List Seen)
        → Changes app job seen others seens given jobs views → Low app p entered left jobs views
    higher_after over given jobs views (GoesOn new shown js vs role_is priority_is nearer) =
        subst (λ xs. Low app p entered left xs views) (sym js)
        (subst (λ xs. Low app p entered left (new ∷ others) xs) (sym vs) (
          λ lower. absurd (omega arith),
          λ higher. low.1 over,
        ))
    higher_after over given jobs views (Restarts new shown js vs thread closed) =
        subst (λ xs. Low app p entered left xs views) (sym js)
        (subst (λ xs. Low app p entered left (new ∷ others) xs) (sym vs) (anew left new shown thread closed))
    higher_after over given jobs views (ComesBack irq js vs role_is item) =
        subst (λ xs. Low app p entered left xs views) (sym js)
        (subst (λ xs. Low app p entered left others xs) (sym vs) (low.1 over))

    lower_after : job.priority < p → (n : ℕ) → outermost app p job.sections job.lefts ≡ Some n
        → outermost app p seen.inside seen.since ≡ Some entered → n ≤ left
        → (given : Option What) (jobs : List Job) (views : List Seen)
        → Changes app job seen others seens given jobs views → Low app p entered (left - 1) jobs views
    lower_after under n is since few given jobs views (GoesOn new shown js vs role_is priority_is nearer) =
        subst (λ xs. Low app p entered (left - 1) xs views) (sym js)
        (subst (λ xs. Low app p entered (left - 1) (new ∷ others) xs) (sym vs) (
          λ lower. behind_more entered (n - 1) (left - 1) (outermost app p new.sections new.lefts)
              (outermost app p shown.inside shown.since) (nearer p n entered is since) (omega arith),
          λ higher. absurd (omega arith),
        ))
    lower_after under n is since few given jobs views (Restarts new shown js vs thread closed) =
        subst (λ xs. Low app p entered (left - 1) xs views) (sym js)
        (subst (λ xs. Low app p entered (left - 1) (new ∷ others) xs) (sym vs)
        (anew (left - 1) new shown thread closed))
    lower_after under n is since few given jobs views (ComesBack irq js vs role_is item) =
        subst (λ xs. Low app p entered (left - 1) xs views) (sym js)
        (subst (λ xs. Low app p entered (left - 1) others xs) (sym vs)
        (low_below entered (left - 1) others seens (ceiling_below job.role job.priority others above under)))

    -- a lower job that may step while this priority is held off is in the section
    pub took : p ≤ system_ceiling app (job ∷ others) → AllByRecursion (λ n. 0 < n) job.lefts
        → (given : Option What) (jobs : List Job) (views : List Seen)
        → Changes app job seen others seens given jobs views
        → Took entered left seen jobs views
    took held may given jobs views moves = by (nat_lt job.priority p) refl
      where
        below : job.priority < p → (o : Option ℕ) → outermost app p job.sections job.lefts ≡ o
            → Behind entered left o (outermost app p seen.inside seen.since) → Took entered left seen jobs views
        below under None is behind =
            let closed : greatest_ceiling app job.sections < p =
            none_outermost app p job.sections job.lefts well.lefts positive is in
            let deeper : system_ceiling app others < p = ceiling_below job.role job.priority others above under in
            absurd (omega arith)
        below under (Some n) is behind =
            let some : 0 < n = subst (λ o. IfSome o (λ n. 0 < n)) is
            (outermost_all app p (λ n. 0 < n) job.sections job.lefts may) in
            let few : n ≤ left = behind.1 in
            let same = well.priority in
            Lower (omega arith) behind.0 (omega arith) (lower_after under n is behind.0 few given jobs views moves)

        by : (b : Bool) → nat_lt job.priority p ≡ b → Took entered left seen jobs views
        by true test = (let under : job.priority < p = ltb-true job.priority p test in
            below under (outermost app p job.sections job.lefts) refl (low.0 under))
        by false test =
            let over : p ≤ job.priority = ltb-false job.priority p test in
            let same = well.priority in
            Higher (omega arith) (higher_after over given jobs views moves)

-- A priority waits in a state, where no alarm is owed: what is to be taken is of that priority or a higher one, and
-- where nothing is to be taken the system ceiling reaches it.
pub record IsWanted (app : App) (p : ℕ) (s : State) : Type 0 where
  pub held : s.owing ≡ false → candidate app s ≡ None → p ≤ system_ceiling app s.jobs
  pub first : s.owing ≡ false → (irq : ℕ) → candidate app s ≡ Some irq → p ≤ priority_of app irq

-- it waits at each moment of these labels, up to the one that ends them
abbrev pub WantedUntil : App → ℕ → (Label → Bool) → State → List (WithWords Label) → Type 0
WantedUntil app p ends s [] = Unit {0}
WantedUntil app p ends s (One label ∷ moves) =
    ends label ≡ false → IsWanted app p s × WantedUntil app p ends (after app s label) moves
WantedUntil app p ends s (Puts n word ∷ moves) = WantedUntil app p ends (state_after_put n word s) moves

-- a priority waits that the system ceiling reaches
pub wanted_below : (app : App) (p : ℕ) (s : State) → p ≤ system_ceiling app s.jobs → IsWanted app p s
wanted_below app p s reach = record {
  held = λ not_owing none. reach;
  first = λ not_owing irq best. let over = starts_above app s irq best in omega arith;
}

-- and that of an interrupt that is pending
pub wanted_pending : (app : App) (s : State) (irq : ℕ) (x : Service) → service_at app irq ≡ Some x
    → slice_index_or s.pending irq false ≡ true → IsWanted app x.priority s
wanted_pending app s irq x served pending = record {
  held = λ not_owing none. held_off app s irq x served pending none;
  first = λ not_owing other best. goes_first app s irq other x served pending best;
}

-- no alarm is owed where a job takes a step
none_owed : (app : App) (s : State) (v : Observer) (label : Label) (seen : Seen) → May app s label
    → stepper v label ≡ seen ∷ [] → s.owing ≡ false
none_owed app s v (Arrived irq) seen may steps = may.0
none_owed app s v Ticked seen may steps = may
none_owed app s v Rang seen may steps = cc
none_owed app s v (Stepped None) seen may steps = may.not_owing
none_owed app s v (Stepped (Some (what.Take irq depth))) seen may steps = may.0
none_owed app s v (Stepped (Some w)) seen may steps = may.0.not_owing

-- while a priority waits, up to the label that ends it, all steps of lower jobs lie in the section entered in one step
module _ (app : App) (accepted : IsAccepted app) (p : ℕ) (positive : 0 < p) (ends : Label → Bool) (entered : ℕ) where
  abbrev waiting : Observer → List Label → List Seen
  waiting v labels = lower p (steppers app ends v labels)

  -- what is so behind a label
  abbrev Follows : List Label → State → Observer → Type 0
  Follows labels t u =
      (left : ℕ) → Low app p entered left t.jobs u.jobs → Lie app p entered left (waiting u labels)

  lie_more : (left : ℕ) (seen : Seen) (steps : List Seen)
      → outermost app p seen.inside seen.since ≡ Some entered → 0 < left → Lie app p entered (left - 1) steps
      → Lie app p entered left (seen ∷ steps)
  lie_more left seen steps is some lie = let few = lie.1 in ((is, lie.0), omega arith)

  waits : (moves : List (WithWords Label)) (s : State) (v : Observer) (left : ℕ) → StateWell app s v
      → RunsBeside app s moves → WantedUntil app p ends s moves → Low app p entered left s.jobs v.jobs
      → Lie app p entered left (waiting v (things moves))
  waits [] s v left well runs wanted low = (tt, omega arith)
  waits (Puts n word ∷ moves) s v left well runs wanted low =
      waits moves (state_after_put n word s) v left (put_well app s v n word well) runs.1 wanted low
  waits (One label ∷ moves) s v left well runs wanted low =
      let comes = happens app accepted s v well label runs.0 in
      one (ends label) refl comes
      (λ goes_on left. waits moves (after app s label) (sees app v label) left
      (after_well app accepted s v well label comes) runs.1 (wanted goes_on).1)
    where
      labels : List Label
      labels = things moves

      by : ends label ≡ false → Happens app s v label (after app s label) (sees app v label)
          → Follows labels (after app s label) (sees app v label)
          → Lie app p entered left (waiting v (label ∷ labels))
      by goes_on (Quietly good jobs views none no_take return) next =
          subst (λ steps. Lie app p entered left (lower p steps))
          (sym (steppers_on app ends v label labels [] goes_on none))
          (next left
          (subst (λ js. Low app p entered left js (sees app v label).jobs) (sym jobs)
          (subst (λ vs. Low app p entered left s.jobs vs) (sym views) low)))
      by goes_on (ByTake j d job is good jobs views role priority best) next =
          let first : p ≤ priority_of app j = (wanted goes_on).0.first (subst (May app s) is runs.0).0 j best in
          subst (λ steps. Lie app p entered left (lower p steps))
          (sym (steppers_on app ends v label labels [] goes_on (ap (stepper v) is)))
          (next left
          (subst (λ js. Low app p entered left js (sees app v label).jobs) (sym jobs)
          (subst (λ vs. Low app p entered left (job ∷ s.jobs) vs) (sym views) (
            λ lower. absurd (omega arith),
            λ higher. low,
          ))))
      by goes_on (ByStep shown step steps no_take return) next =
          two (took app p positive entered left step.job step.others step.seen step.seens step.well step.above
          (subst (λ js. Low app p entered left js (step.seen ∷ step.seens)) step.jobs_are
          (subst (λ vs. Low app p entered left s.jobs vs) step.views_are low))
          (subst (λ js. p ≤ system_ceiling app js) step.jobs_are
          ((wanted goes_on).0.held (none_owed app s v label step.seen runs.0 who) step.quiet))
          step.may shown (after app s label).jobs (sees app v label).jobs step.led.moves)
        where
          who : stepper v label ≡ step.seen ∷ []
          who = steps ∙ ap first_of step.views_are

          two : Took app p positive entered left step.seen (after app s label).jobs (sees app v label).jobs
              → Lie app p entered left (waiting v (label ∷ labels))
          two (Higher over low_next) =
              subst (λ steps. Lie app p entered left (lower p steps))
              (sym (steppers_on app ends v label labels (step.seen ∷ []) goes_on who))
              (subst (Lie app p entered left)
              (sym (not_lower p step.seen (steppers app ends (sees app v label) labels) over)) (next left low_next))
          two (Lower under is some low_next) =
              subst (λ steps. Lie app p entered left (lower p steps))
              (sym (steppers_on app ends v label labels (step.seen ∷ []) goes_on who))
              (subst (Lie app p entered left)
              (sym (is_lower p step.seen (steppers app ends (sees app v label) labels) under))
              (lie_more left step.seen (waiting (sees app v label) labels) is some
              (next (left - 1) low_next)))

      one : (b : Bool) → ends label ≡ b → Happens app s v label (after app s label) (sees app v label)
          → (ends label ≡ false → Follows labels (after app s label) (sees app v label))
          → Lie app p entered left (waiting v (label ∷ labels))
      one true ended comes next =
          subst (λ steps. Lie app p entered left (lower p steps))
          (sym (steppers_ended app ends v label labels ended)) (tt, omega arith)
      one false goes_on comes next = by goes_on comes (next goes_on)

module _ (app : App) (accepted : IsAccepted app) (p : ℕ) (positive : 0 < p) (ends : Label → Bool) where
  fewer : (steps : List Seen) → length steps ≤ most_left app p
      → (steps ≡ []) ⊎ (length steps < waiting_bound app p)
  fewer [] less = inl refl
  fewer (seen ∷ steps) less = inr (omega arith)

  pub waits_once : (moves : List (WithWords Label)) (s : State) (v : Observer) → StateWell app s v
      → RunsBeside app s moves → WantedUntil app p ends s moves → p ≤ 2 ^ app.bits
      → LieInOneSection app p (lower p (steppers app ends v (things moves)))
  waits_once moves s v well runs wanted top =
      let start = low_start app p positive s.jobs v.jobs well.stack top in
      let lie = waits app accepted p positive ends start.0 moves s v (most_left app p) well runs wanted start.1 in
      record { entered = start.0; inside = lie.0; few = fewer (lower p (steppers app ends v (things moves))) lie.1 }

module _ (app : App) (accepted : IsAccepted app) (irq : ℕ) (x : Service) (served : service_at app irq ≡ Some x) where
  abbrev p : ℕ
  p = x.priority

  -- the priority of an interrupt that is served is one of the application
  pub in_range : (1 ≤ p) × (p ≤ 2 ^ app.bits)
  in_range = let h = find_has (λ (s : Service). (s.irq < length app.irqs) × (1 ≤ s.priority)
      × (s.priority ≤ 2 ^ app.bits))
      _ (services app) x (accepted_are_sound app accepted).served served in (h.1, h.2)

  wanted_until : (moves : List (WithWords Label)) (s : State) (v : Observer) → StateWell app s v
      → RunsBeside app s moves → is_pending v irq ≡ true → WantedUntil app p (is_take irq) s moves
  wanted_until [] s v well runs pending = tt
  wanted_until (Puts n word ∷ moves) s v well runs pending =
      wanted_until moves (state_after_put n word s) v (put_well app s v n word well) runs.1 pending
  wanted_until (One label ∷ moves) s v well runs pending = λ goes_on. (
    wanted_pending app s irq x served (ap (λ ps. slice_index_or ps irq false) (sym well.pending) ∙ pending),
    wanted_until moves (after app s label) (sees app v label)
        (after_well app accepted s v well label (happens app accepted s v well label runs.0)) runs.1
        (pending_stays app irq v label
        (λ j d is same. true_and_false (is_take irq label) (ap (is_take irq) is ∙ eq-eqb j irq same) goes_on)
        pending),
  )

  pub waits_well : (moves : List (WithWords Label)) (s : State) (v : Observer) → StateWell app s v
      → RunsBeside app s moves → is_pending v irq ≡ true
      → LieInOneSection app p (lower p (steppers app (is_take irq) v (things moves)))
  waits_well moves s v well runs pending =
      waits_once app accepted p in_range.0 (is_take irq) moves s v well runs
      (wanted_until moves s v well runs pending) in_range.1

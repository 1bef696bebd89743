-- Sections exclude each other, where one is entered nobody is inside it, and jobs return outside all sections.
use Rattle.std.proofs.Common.{◌≡◌, ℕ, zero, suc, ◌≤◌, max, Bool, true, false, if◌then◌else◌, List, [], ◌∷◌, map, ◌∙◌}
use Rattle.std.proofs.Common.{slice_get, take, Option, Some, refl, sym, ap, subst, arith}
use Rattle.std.specs.List.{AllByRecursion}
use Rattle.std.proofs.lemmas.Option.{same_Some, none-some}
use Rattle.rt_lemmas.proofs.Membership.{all_at}
use Rattle.rt_ids.specs.Lists.{greatest}
use Rattle.rt_ids.specs.Choice.{IsIn}
use Rattle.rt_actions.specs.Content.{Values}
use Rattle.rt_actions.specs.Action.{Enters, Leaves, SetsAlarm, Ends, Returns}
use Rattle.rt_actions.specs.Doing.{Doing, over, does}
use Rattle.rt_ids.specs.declared.ids.BodyId.TheVariants as body
use Rattle.rt_ids.specs.declared.ids.Section.{Section}
use Rattle.rt_trace.specs.Label.{Label, Stepped}
use Rattle.rt_trace.specs.declared.item.What.{What}
use Rattle.rt_trace.specs.declared.item.What.TheVariants as what
use Rattle.rt_app.specs.Tree.{App}
use Rattle.rt_app.specs.Ceiling.{ceiling}
use Rattle.rt_laws.specs.State.{Role, Init, Idle, Waiting, Serving, Job, State}
use Rattle.rt_laws.specs.Preemption.{system_ceiling, greatest_ceiling}
use Rattle.rt_laws.specs.Giving.{next_instant, is_due, return_item, next_item, item_given}
use Rattle.rt_laws.specs.Allowed.{May}
use Rattle.rt_laws.specs.Observer.{Seen, Observer}
use Rattle.rt_laws.specs.Properties.{AreExclusive, FindsFree, LeavesInnermost, IsOutside, IsOutsideAtReturn}
use Rattle.rt_laws.specs.Properties.{IsOutsideAtEnd}
use Rattle.rt_laws.proofs.Fine.{Within, EntersFine, IsFine}
use Rattle.rt_laws.proofs.FineHandlers.{all_in}
use Rattle.rt_laws.proofs.Well.{JobWell, IsAbove, StackWell, StateWell}

pub within_greatest : {X : Type 0} (f : X → ℕ) (xs : List X) (x : X) → IsIn xs x → f x ≤ greatest (map f xs)
within_greatest f [] x is = absurd (none-some x is.1)
within_greatest f (y ∷ xs) x (zero, at) =
    subst (λ z. f z ≤ max (f y) (greatest (map f xs))) (same_Some y x at) (omega arith)
within_greatest f (y ∷ xs) x (suc i, at) = let more : f x ≤ greatest (map f xs) = within_greatest f xs x (i, at) in
    omega arith

module _ (app : App) where
  -- what a job of the stack is inside raises the system ceiling
  inside_ceiling : (js : List Job) (vs : List Seen) → StackWell app js vs → (k : ℕ) (b : Seen) (x : Section)
      → slice_get vs k ≡ Some b → IsIn b.inside x → ceiling app x ≤ system_ceiling app js
  inside_ceiling [] [] stack k b x at is = absurd (none-some b at)
  inside_ceiling [] (seen ∷ seens) stack k b x at is = absurd stack
  inside_ceiling (job ∷ others) [] stack k b x at is = absurd stack
  inside_ceiling (job ∷ others) (seen ∷ seens) stack zero b x at is =
      let own : IsIn job.sections x =
      subst (λ xs. IsIn xs x) stack.0.inside (subst (λ c. IsIn c.inside x) (sym (same_Some seen b at)) is) in
      let most : ceiling app x ≤ greatest_ceiling app job.sections = within_greatest (ceiling app) job.sections x own in
      omega arith
  inside_ceiling (job ∷ others) (seen ∷ seens) stack (suc k) b x at is =
      let most : ceiling app x ≤ system_ceiling app others = inside_ceiling others seens stack.2 k b x at is in
      omega arith

  none_there : (seens : List Seen) → StackWell app [] seens → (k : ℕ) (b : Seen) → slice_get seens k ≡ Some b → ⊥
  none_there [] stack k b at = none-some b at
  none_there (seen ∷ seens) stack k b at = stack

  -- no job below is inside a section that the job above may be in
  apart : (role : Role) (q : ℕ) (others : List Job) (seens : List Seen) → IsAbove app role q others
      → StackWell app others seens → (x : Section) → Within role q (ceiling app x)
      → (k : ℕ) (b : Seen) → slice_get seens k ≡ Some b → IsIn b.inside x → ⊥
  apart Init q others seens above stack x within k b at is =
      none_there seens (subst (λ js. StackWell app js seens) above stack) k b at
  apart Idle q others seens above stack x within k b at is =
      none_there seens (subst (λ js. StackWell app js seens) above.0 stack) k b at
  apart Waiting q others seens above stack x within k b at is =
      none_there seens (subst (λ js. StackWell app js seens) above.0 stack) k b at
  apart (Serving irq) q others seens above stack x within k b at is =
      let most = inside_ceiling others seens stack k b x at is in
      let over = above.1 in
      absurd (omega arith)

  own_within : (job : Job) (seen : Seen) → JobWell app job seen → (a : Seen) → seen ≡ a → (x : Section)
      → IsIn a.inside x → Within job.role job.priority (ceiling app x)
  own_within job seen well a same x is =
      let own : IsIn job.sections x =
      subst (λ xs. IsIn xs x) well.inside (subst (λ c. IsIn c.inside x) (sym same) is) in
      all_at (λ x. Within job.role job.priority (ceiling app x)) job.sections own.0 x well.within own.1

  pub exclusive : (js : List Job) (vs : List Seen) → StackWell app js vs → AreExclusive vs
  exclusive [] [] stack i j a b x at_a at_b in_a in_b = absurd (none-some a at_a)
  exclusive [] (seen ∷ seens) stack i j a b x at_a at_b in_a in_b = absurd stack
  exclusive (job ∷ others) [] stack i j a b x at_a at_b in_a in_b = absurd stack
  exclusive (job ∷ others) (seen ∷ seens) stack zero zero a b x at_a at_b in_a in_b = refl
  exclusive (job ∷ others) (seen ∷ seens) stack zero (suc k) a b x at_a at_b in_a in_b =
      absurd (apart job.role job.priority others seens stack.1 stack.2 x
      (own_within job seen stack.0 a (same_Some seen a at_a) x in_a) k b at_b in_b)
  exclusive (job ∷ others) (seen ∷ seens) stack (suc k) zero a b x at_a at_b in_a in_b =
      absurd (apart job.role job.priority others seens stack.1 stack.2 x
      (own_within job seen stack.0 b (same_Some seen b at_b) x in_b) k a at_a in_a)
  exclusive (job ∷ others) (seen ∷ seens) stack (suc k) (suc l) a b x at_a at_b in_a in_b =
      ap suc (exclusive others seens stack.2 k l a b x at_a at_b in_a in_b)

  -- where the next item is an entry, the next action is the entry, and is well formed
  entry_of : (s : State) (role : Role) (q n : ℕ) (held : List Section) (base : Values) (rest : Doing Values)
      (x : Section)
      → IsFine app role q n held base rest → next_item s role rest ≡ Some (what.Enter x)
      → (cost : ℕ) × EntersFine app role q held x cost
  entry_of s role q n held base over x fine is = absurd (none-some (what.Enter x) is)
  entry_of s role q n held base (does (Enters y cost) made next) x fine is = let same : y ≡ x = cc in
      (cost, subst (λ z. EntersFine app role q held z cost) same fine.1)
  entry_of s role q n held base (does SetsAlarm made next) x fine is = go (is_due s.time (next_instant s)) is
    where
      go : (b : Bool) → Some (if b then what.Alarm else what.AlarmSet) ≡ Some (what.Enter x)
          → (cost : ℕ) × EntersFine app role q held x cost
      go true h = cc
      go false h = cc
  entry_of s role q n held base (does Returns made next) x fine is = go role is
    where
      go : (r : Role) → return_item r ≡ Some (what.Enter x) → (cost : ℕ) × EntersFine app role q held x cost
      go Init h = cc
      go Idle h = cc
      go Waiting h = cc
      go (Serving irq) h = cc
  entry_of s role q n held base (does action made next) x fine is = cc

  free_at : (s : State) (js : List Job) (vs : List Seen) (x : Section) → StackWell app js vs
      → item_given s js ≡ Some (what.Enter x) → AllByRecursion (λ job. ¬ IsIn job.inside x) vs
  free_at s [] vs x stack is = absurd (none-some (what.Enter x) is)
  free_at s (job ∷ others) [] x stack is = absurd stack
  free_at s (job ∷ others) (seen ∷ seens) x stack is =
      let entry =
      entry_of s job.role job.priority stack.0.answered job.sections stack.0.base job.rest x stack.0.fine is in (
        λ inside. entry.1.once (subst (λ xs. IsIn xs x) stack.0.inside inside),
        all_in (λ b. ¬ IsIn b.inside x) seens
            (λ b at inside.
            apart job.role job.priority others seens stack.1 stack.2 x entry.1.within at.0 b at.1 inside),
      )

  pub finds_free : (s : State) (v : Observer) (label : Label) → StateWell app s v → May app s label → FindsFree v label
  finds_free s v (Stepped (Some (what.Enter x))) well may = free_at s s.jobs v.jobs x well.stack may.1
  finds_free s v label well may = tt

  -- where the next item is a leave, the next action is the leave, of the innermost section
  leave_of : (s : State) (role : Role) (q n : ℕ) (held : List Section) (base : Values) (rest : Doing Values)
      (x : Section)
      (value : Option ℕ)
      → IsFine app role q n held base rest → next_item s role rest ≡ Some (what.Leave x value)
      → slice_get held 0 ≡ Some x
  leave_of s role q n held base over x value fine is = absurd (none-some (what.Leave x value) is)
  leave_of s role q n held base (does (Leaves y) made next) x value fine is =
      let same : y ≡ x = cc in ap (λ xs. slice_get xs 0) fine.1.1 ∙ ap Some same
  leave_of s role q n held base (does SetsAlarm made next) x value fine is = go (is_due s.time (next_instant s)) is
    where
      go : (b : Bool) → Some (if b then what.Alarm else what.AlarmSet) ≡ Some (what.Leave x value)
          → slice_get held 0 ≡ Some x
      go true h = cc
      go false h = cc
  leave_of s role q n held base (does Returns made next) x value fine is = go role is
    where
      go : (r : Role) → return_item r ≡ Some (what.Leave x value) → slice_get held 0 ≡ Some x
      go Init h = cc
      go Idle h = cc
      go Waiting h = cc
      go (Serving irq) h = cc
  leave_of s role q n held base (does action made next) x value fine is = cc

  innermost_at : (s : State) (js : List Job) (vs : List Seen) (x : Section) (value : Option ℕ) → StackWell app js vs
      → item_given s js ≡ Some (what.Leave x value)
      → AllByRecursion (λ job. slice_get job.inside 0 ≡ Some x) (take 1 vs)
  innermost_at s [] vs x value stack is = absurd (none-some (what.Leave x value) is)
  innermost_at s (job ∷ others) [] x value stack is = absurd stack
  innermost_at s (job ∷ others) (seen ∷ seens) x value stack is = (
    ap (λ xs. slice_get xs 0) stack.0.inside
        ∙ leave_of s job.role job.priority stack.0.answered job.sections stack.0.base job.rest x value stack.0.fine is,
    tt,
  )

  pub leaves_innermost : (s : State) (v : Observer) (label : Label) → StateWell app s v → May app s label
      → LeavesInnermost v label
  leaves_innermost s v (Stepped (Some (what.Leave x value))) well may =
      innermost_at s s.jobs v.jobs x value well.stack may.1
  leaves_innermost s v label well may = tt

  -- an item by which a job returns or a body ends
  abbrev IsLast : What → Type 0
  IsLast (what.Ret irq) = Unit {0}
  IsLast (what.End b) = Unit {0}
  IsLast w = ⊥

  -- the next action that gives such an item is done with no section open
  none_held : (s : State) (role : Role) (q n : ℕ) (held : List Section) (base : Values) (rest : Doing Values) (w : What)
      → IsFine app role q n held base rest → next_item s role rest ≡ Some w → IsLast w → held ≡ []
  none_held s role q n held base over w fine is last = absurd (none-some w is)
  none_held s role q n held base (does (Ends body.Init) made next) w fine is last = fine.1.1
  none_held s role q n held base (does (Ends body.Idle) made next) w fine is last = fine.1.1
  none_held s role q n held base (does (Ends (body.Task k)) made next) w fine is last = fine.1
  none_held s role q n held base (does Returns made next) w fine is last = fine.1.2
  none_held s role q n held base (does SetsAlarm made next) w fine is last =
      absurd (go (is_due s.time (next_instant s)) (subst IsLast (sym (same_Some _ w is)) last))
    where
      go : (b : Bool) → IsLast (if b then what.Alarm else what.AlarmSet) → ⊥
      go true never = never
      go false never = never
  none_held s role q n held base (does action made next) w fine is last =
      absurd (subst IsLast (sym (same_Some _ w is)) last)

  outside_at : (s : State) (js : List Job) (vs : List Seen) (w : What) → StackWell app js vs → item_given s js ≡ Some w
      → IsLast w → IsOutside vs
  outside_at s [] vs w stack is last = absurd (none-some w is)
  outside_at s (job ∷ others) [] w stack is last = absurd stack
  outside_at s (job ∷ others) (seen ∷ seens) w stack is last = (
    stack.0.inside
        ∙ none_held s job.role job.priority stack.0.answered job.sections stack.0.base job.rest w stack.0.fine is last,
    tt,
  )

  pub returns_outside : (s : State) (v : Observer) (label : Label) → StateWell app s v → May app s label
      → IsOutsideAtReturn v label
  returns_outside s v (Stepped (Some (what.Ret irq))) well may =
      outside_at s s.jobs v.jobs (what.Ret irq) well.stack may.1 tt
  returns_outside s v (Stepped (Some (what.End body.Init))) well may =
      outside_at s s.jobs v.jobs (what.End body.Init) well.stack may.1 tt
  returns_outside s v label well may = tt

  pub ends_outside : (s : State) (v : Observer) (label : Label) → StateWell app s v → May app s label
      → IsOutsideAtEnd v label
  ends_outside s v (Stepped (Some (what.End b))) well may =
      outside_at s s.jobs v.jobs (what.End b) well.stack may.1 tt
  ends_outside s v label well may = tt

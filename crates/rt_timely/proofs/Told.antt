-- A line is told of each job, each section and each wait.
use Rattle.std.proofs.Common.{◌≡◌, ℕ, zero, suc, ◌-◌, ◌/◌, ◌%◌, ◌^◌, ◌<◌, ◌≤◌, ◌==◌, ◌||◌, nat_le, Bool, true}
use Rattle.std.proofs.Common.{false, List, [], ◌∷◌, length, map, slice_get, Option, Some, None, is_some, IsSome, refl}
use Rattle.std.proofs.Common.{sym, ap}
use Rattle.std.proofs.Common.{subst, ⊎_elim, ◌∙◌, arith, eq-eqb}
use Rattle.std.specs.List.{AllByRecursion, Contains, cons_option, list_any}
use Rattle.std.proofs.lemmas.Bool.{le-leb}
use Rattle.std.proofs.lemmas.Option.{none-some}
use Rattle.rt_lemmas.proofs.Bools.{and_both}
use Rattle.rt_lemmas.proofs.Lists.{is_some_within}
use Rattle.rt_lemmas.proofs.Membership.{all_weaker, contains_cases, contains_here, contains_none, contains_there}
use Rattle.rt_ids.specs.Lists.{then_from}
use Rattle.rt_ids.specs.Priority.{hardware}
use Rattle.rt_ids.specs.declared.ids.Section.{Section}
use Rattle.rt_code.specs.Image.{Image}
use Rattle.rt_code.specs.declared.image.Handler.{Handler}
use Rattle.rt_code.specs.declared.image.IrqRow.{IrqRow}
use Rattle.rt_code.specs.declared.instr.Instr.{Instr}
use Rattle.rt_core.specs.Core.{reset}
use Rattle.rt_core.specs.Trace.{core_after}
use Rattle.rt_points.specs.Leading.{handler_at}
use Rattle.rt_points.specs.Point.{Point}
use Rattle.rt_points.specs.Rules.{EntersAt}
use Rattle.rt_points.specs.Stack.{handlers}
use Rattle.rt_points.specs.declared.point.Opened.{Opened}
use Rattle.rt_points.specs.declared.point.Owner.{Owner}
use Rattle.rt_points.specs.declared.point.Owner.TheVariants as owner
use Rattle.rt_points.specs.declared.rule.Rule.TheVariants as rule
use Rattle.rt_bounds.specs.Bounds.{Enters, AreBounds, is_enabled, is_used}
use Rattle.rt_bounds.specs.declared.bound.Bounds.{Bounds}
use Rattle.rt_bounds.specs.declared.bound.HandlerBound.{HandlerBound}
use Rattle.rt_bounds.specs.declared.bound.WaitBound.{WaitBound}
use Rattle.rt_bounds.specs.CountedWays.{all_left}
use Rattle.rt_bounds.proofs.Covering.{those_have}
use Rattle.rt_timely.specs.InTime.{IsOf}
use Rattle.rt_timely.specs.Told.{HasJobLine, HasSectionLine, AreTold, RunsAreTold, WaitsAreTold}
use Rattle.rt_timely.specs.Watching.{Whose, Init, Thread, Handler as HandlerOf, Stay, SeenJob, LeftStay, Watch, watched}
use Rattle.rt_timely.proofs.Came.{came_owner}
use Rattle.rt_timely.proofs.Frames.{frames_of}
use Rattle.rt_timely.proofs.Reaching.{reached}
use Rattle.rt_timely.proofs.Tied.{BeginsAtEntry, BeginsAt, AreStays, IsJobAt, AreJobsAt, IsWholeJob, IsWholeStay}
use Rattle.rt_timely.proofs.Tied.{IsTied, jobs_of}

-- what is among the images of a list is the image of one of it
from_map : {X Y : Type 0} (f : X → Y) (xs : List X) (y : Y) → Contains (map f xs) y
    → (x : X) × Contains xs x × (f x ≡ y)
from_map f [] y has = absurd (contains_none y has)
from_map f (x ∷ xs) y has =
    ⊎_elim (λ same. (x, contains_here x xs, same))
    (λ rest. let one = from_map f xs y rest in (one.0, contains_there x xs one.0 one.1, one.2))
    (contains_cases (f x) (map f xs) y has)

module _ (img : Image) (b : Bounds) (are : AreBounds img b) where
  -- a handler's row
  pub handler_row : (irq : ℕ) (start : Point) → (begins : BeginsAtEntry img irq start)
      → (row : HandlerBound) × Contains b.handlers.items row × (row.index ≡ begins.index)
  handler_row irq start begins =
      let there : handler_at img begins.index ≡ Some begins.handler =
      ap (λ o. then_from o (λ r. r.handler)) begins.at ∙ begins.enabled in
      let passes : is_enabled img begins.index ≡ true = ap (λ (o : Option Handler). is_some o) there in
      let within = is_some_within img.irqs begins.index (subst (λ o. IsSome o) (sym begins.at) refl) in
      let has : Contains (map (λ row. row.index) b.handlers.items) begins.index =
      subst (λ (xs : List ℕ). Contains xs begins.index) (sym are.handlers.enabled)
      (those_have (is_enabled img) (length img.irqs) begins.index within passes) in
      from_map (λ (row : HandlerBound). row.index) b.handlers.items begins.index has

  -- a handler's line
  handler_told : (irq : ℕ) (start : Point) → BeginsAtEntry img irq start → HasJobLine img b (HandlerOf irq)
  handler_told irq start begins =
      let one = handler_row irq start begins in
      let numbered : IsOf img (owner.Handling begins.index) (HandlerOf irq) =
      record { row = begins.row; at = begins.at; number = begins.number } in
      (owner.Handling begins.index, one.0.longest, numbered, (one.0, one.1, one.2, refl))

  job_told : (whose : Whose) (start : Point) → BeginsAt img whose start → HasJobLine img b whose
  job_told Init start begins = (owner.Starting, b.init, tt, refl)
  job_told Thread start begins = tt
  job_told (HandlerOf irq) start begins = handler_told irq start begins

  -- the owner of where a job begins is its owner
  owned : (whose : Whose) (start : Point) → BeginsAt img whose start → IsOf img start.owner whose
  owned Init start begins = subst (λ (o : Owner). IsOf img o Init) (ap (λ (r : Point). r.owner) (sym begins)) tt
  owned Thread start begins = subst (λ (o : Owner). IsOf img o Thread) (sym begins) tt
  owned (HandlerOf irq) start begins =
      let numbered : IsOf img (owner.Handling begins.index) (HandlerOf irq) =
      record { row = begins.row; at = begins.at; number = begins.number } in
      subst (λ (o : Owner). IsOf img o (HandlerOf irq)) (ap (λ (r : Point). r.owner) (sym begins.point)) numbered

  section_told : (whose : Whose) (start entry : Point) (i : Instr) (x : Section) → BeginsAt img whose start
      → entry.owner ≡ start.owner → EntersAt img entry i x → HasSectionLine img b whose x
  section_told whose start entry i x begins own enters =
      let here : Enters img start.owner x entry = record { mine = own; instr = i; enters = enters } in
      let row = are.sections.all start.owner x entry here in
      (row.0, row.1, subst (λ (o : Owner). IsOf img o whose) (sym row.2) (owned whose start begins), row.3)

  jobs_told : (jobs : List SeenJob) (ps : List Point) → AreJobsAt img jobs ps
      → AllByRecursion (λ job. HasJobLine img b job.whose) jobs
  jobs_told [] ps at = tt
  jobs_told (job ∷ jobs) [] at = absurd at
  jobs_told (job ∷ jobs) (p ∷ ps) at = (job_told job.whose at.0.start at.0.begins, jobs_told jobs ps at.1)

  stays_told : (job : SeenJob) (p : Point) → (at : IsJobAt img job p) → (stays : List Stay) (opened : List Opened)
      → AreStays img at.now p stays opened → AllByRecursion (λ stay. HasSectionLine img b job.whose stay.section) stays
  stays_told job p at [] opened are_in = tt
  stays_told job p at (stay ∷ stays) [] are_in = absurd are_in
  stays_told job p at (stay ∷ stays) (o ∷ outer) are_in =
      let one = are_in.0 in (
        section_told job.whose at.start one.entry one.instr stay.section at.begins
            (sym one.owner ∙ came_owner img 0 all_left at.start job.steps at.now p at.came) one.enters,
        stays_told job p at stays outer are_in.1,
      )

  all_stays_told : (jobs : List SeenJob) (ps : List Point) → AreJobsAt img jobs ps
      → AllByRecursion (λ job. AllByRecursion (λ stay. HasSectionLine img b job.whose stay.section) job.inside) jobs
  all_stays_told [] ps at = tt
  all_stays_told (job ∷ jobs) [] at = absurd at
  all_stays_told (job ∷ jobs) (p ∷ ps) at =
      (stays_told job p at.0 job.inside p.inside at.0.stays, all_stays_told jobs ps at.1)

  are_told : (w : Watch) (ps : List Point) (frames : List (List ℕ)) → IsTied img w ps frames → AreTold img b w
  are_told w ps frames tied = record {
    jobs = jobs_told w.jobs ps (jobs_of img w ps frames tied);
    ended = all_weaker (IsWholeJob img) (λ (job : SeenJob). HasJobLine img b job.whose)
        (λ job whole. job_told job.whose whole.start whole.begins) w.ended tied.ended;
    inside = all_stays_told w.jobs ps (jobs_of img w ps frames tied);
    left = all_weaker (λ (one : LeftStay). IsWholeStay img one.whose one.stay)
        (λ (one : LeftStay). HasSectionLine img b one.whose one.stay.section)
        (λ one whole.
        section_told one.whose whole.start whole.entry whole.instr one.stay.section whole.begins whole.owner
        whole.enters)
        w.left tied.left;
  }

pub runs_are_told : RunsAreTold
runs_are_told img b events checked are =
    let at = reached img checked events in
    are_told img b are (watched img events) (at.point ∷ at.below)
    (frames_of (core_after img (reset img) events)) at.tied

-- the priority of a value of implemented bits
record IsLogical (bits value : ℕ) : Type 0 where
  priority : ℕ
  some : 1 ≤ priority
  most : priority ≤ 2 ^ bits
  is : hardware bits priority ≡ value

logical : (b v : ℕ) → 3 ≤ b → b ≤ 7 → v < 256 → v % 2 ^ (8 - b) ≡ 0 → IsLogical b v
logical zero v few many small even = absurd (omega arith)
logical (suc zero) v few many small even = absurd (omega arith)
logical (suc (suc zero)) v few many small even = absurd (omega arith)
logical (suc (suc (suc zero))) v few many small even =
    record { priority = 8 - v / 32; some = omega arith; most = omega arith; is = omega arith }
logical (suc (suc (suc (suc zero)))) v few many small even =
    record { priority = 16 - v / 16; some = omega arith; most = omega arith; is = omega arith }
logical (suc (suc (suc (suc (suc zero))))) v few many small even =
    record { priority = 32 - v / 8; some = omega arith; most = omega arith; is = omega arith }
logical (suc (suc (suc (suc (suc (suc zero)))))) v few many small even =
    record { priority = 64 - v / 4; some = omega arith; most = omega arith; is = omega arith }
logical (suc (suc (suc (suc (suc (suc (suc zero))))))) v few many small even =
    record { priority = 128 - v / 2; some = omega arith; most = omega arith; is = omega arith }
logical (suc (suc (suc (suc (suc (suc (suc (suc b)))))))) v few many small even = absurd (omega arith)

-- a value of a handler of a row is among those of the handlers
value_there : (value : ℕ) (rows : List IrqRow) (index : ℕ) (h : Handler)
    → then_from (slice_get rows index) (λ row. row.handler) ≡ Some h → h.value ≡ value
    → list_any (λ h. h.value == value) (handlers rows) ≡ true
value_there value [] index h at is = absurd (none-some h at)
value_there value (row ∷ rows) zero h at is =
    subst (λ o. list_any (λ h. h.value == value) (cons_option o (handlers rows)) ≡ true) (sym at)
    (here (h.value == value) (eq-eqb h.value value is))
  where
    here : (b : Bool) → b ≡ true → (b || list_any (λ h. h.value == value) (handlers rows)) ≡ true
    here true passes = refl
    here false passes = absurd (cc)
value_there value (row ∷ rows) (suc index) h at is = by row.handler (value_there value rows index h at is)
  where
    past : (b : Bool) (more : Bool) → more ≡ true → (b || more) ≡ true
    past true more is = refl
    past false more is = is

    by : (o : Option Handler) → list_any (λ h. h.value == value) (handlers rows) ≡ true
        → list_any (λ h. h.value == value) (cons_option o (handlers rows)) ≡ true
    by None before = before
    by (Some g) before = past (g.value == value) (list_any (λ h. h.value == value) (handlers rows)) before

pub waits_are_told : WaitsAreTold
waits_are_told img b index row h limits checked are at enabled small =
    let even = (checked rule.Numbers).values index row h at enabled in
    let one = logical img.bits h.value limits.few_bits limits.many_bits small even in
    let some = one.some in
    let most = one.most in
    let there : handler_at img index ≡ Some h = ap (λ o. then_from o (λ r. r.handler)) at ∙ enabled in
    let used : is_used img one.priority ≡ true =
    and_both (nat_le 1 one.priority)
    (list_any (λ h. h.value == hardware img.bits one.priority) (handlers img.irqs)) (le-leb 1 one.priority some)
    (value_there (hardware img.bits one.priority) img.irqs index h there (sym one.is)) in
    let has : Contains (map (λ row. row.priority) b.waits.items) one.priority =
    subst (λ (xs : List ℕ). Contains xs one.priority) (sym are.waits.used)
    (those_have (is_used img) (suc (2 ^ img.bits)) one.priority (omega (arith, most)) used) in
    let found = from_map (λ (row : WaitBound). row.priority) b.waits.items one.priority has in
    (found.0, found.1, ap (hardware img.bits) found.2 ∙ one.is)

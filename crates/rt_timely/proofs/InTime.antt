-- A job takes no more steps than the longest way from where it begins, and a stay in a section no more than the longest
-- way from its entering.
use Rattle.std.proofs.Common.{◌≡◌, ℕ, suc, List, [], ◌∷◌, Some, sym, ap, subst, ◌∙◌, arith}
use Rattle.std.specs.List.{AllByRecursion, Contains}
use Rattle.std.proofs.lemmas.Option.{same_Some}
use Rattle.rt_lemmas.proofs.Membership.{all_has, all_weaker}
use Rattle.rt_ids.specs.Lists.{then_from}
use Rattle.rt_ids.specs.declared.ids.Section.{Section}
use Rattle.rt_code.specs.Image.{Image}
use Rattle.rt_code.specs.declared.image.Handler.{Handler}
use Rattle.rt_code.specs.declared.instr.Instr.{Instr}
use Rattle.rt_core.specs.Core.{reset}
use Rattle.rt_core.specs.Trace.{core_after}
use Rattle.rt_points.specs.Checked.{IsChecked}
use Rattle.rt_points.specs.Leading.{handler_at, starts_at}
use Rattle.rt_points.specs.Point.{Point}
use Rattle.rt_points.specs.Rules.{EntersAt}
use Rattle.rt_points.specs.declared.point.Opened.{Opened}
use Rattle.rt_points.specs.declared.point.Owner.{Owner}
use Rattle.rt_points.specs.declared.point.Owner.TheVariants as owner
use Rattle.rt_points.specs.declared.rule.Rule.TheVariants as rule
use Rattle.rt_bounds.specs.Bounds.{IsOwnersBound, IsHandlersBound, IsSectionBound, Enters, AreBounds, depth_inside}
use Rattle.rt_bounds.specs.CountedWays.{FreshWay, all_left}
use Rattle.rt_bounds.specs.declared.bound.Bounds.{Bounds}
use Rattle.rt_bounds.specs.declared.bound.HandlerBound.{HandlerBound}
use Rattle.rt_bounds.specs.declared.bound.SectionBound.{SectionBound}
use Rattle.rt_bounds.specs.declared.longest.Longest.{Longest}
use Rattle.rt_bounds.specs.declared.longest.Longest.TheVariants.{Steps, Loop}
use Rattle.rt_safe.proofs.Depth.{within_need}
use Rattle.rt_timely.specs.InTime.{IsBelow, IsNoMore, IsNumbered, IsOf, IsToldOf, KeepsLines, AreInTime}
use Rattle.rt_timely.specs.InTime.{KeepsSectionLines, AreLeftInTime, JobsEndInTime, SectionsEndInTime, StackIsEnough}
use Rattle.rt_timely.specs.Watching.{Whose, Init, Thread, Handler as HandlerOf, Stay, SeenJob, LeftStay, Watch}
use Rattle.rt_timely.specs.Watching.{watched}
use Rattle.rt_timely.proofs.Came.{came_owner, came_way}
use Rattle.rt_timely.proofs.Counted.{all_few}
use Rattle.rt_timely.proofs.Frames.{frames_of}
use Rattle.rt_timely.proofs.Reaching.{reached}
use Rattle.rt_timely.proofs.Tied.{BeginsAtEntry, BeginsAt, AreStays, IsJobAt, AreJobsAt, IsWholeJob, IsWholeStay}
use Rattle.rt_timely.proofs.Tied.{IsTied, jobs_of}

-- one step more than these is within a bound
next_within : (longest : Longest) (steps : ℕ) → IsNoMore longest (suc steps) → IsBelow longest steps
next_within (Steps n) steps within = omega (arith, within)
next_within (Loop address) steps within = tt

module _ (img : Image) (checked : IsChecked img) where
  -- the row of an interrupt is one
  entry_of : (who : Owner) (irq : ℕ) (start : Point) → BeginsAtEntry img irq start → IsOf img who (HandlerOf irq)
      → who ≡ start.owner
  entry_of owner.Starting irq start begins is = absurd is
  entry_of owner.Thread irq start begins is = absurd is
  entry_of (owner.Handling index) irq start begins is =
      let same : index ≡ begins.index =
      (checked rule.Numbers).numbers index begins.index is.row begins.row is.at begins.at
      (is.number ∙ sym begins.number) in
      ap owner.Handling same ∙ ap (λ (r : Point). r.owner) (sym begins.point)

  -- a job's owner is that of where it begins
  owner_of : (who : Owner) (whose : Whose) (start : Point) → BeginsAt img whose start → IsOf img who whose
      → who ≡ start.owner
  owner_of owner.Starting Init start begins is = ap (λ (r : Point). r.owner) (sym begins)
  owner_of owner.Thread Init start begins is = absurd is
  owner_of (owner.Handling index) Init start begins is = absurd is
  owner_of owner.Starting Thread start begins is = absurd is
  owner_of owner.Thread Thread start begins is = sym begins
  owner_of (owner.Handling index) Thread start begins is = absurd is
  owner_of who (HandlerOf irq) start begins is = entry_of who irq start begins is

  -- a way from where an owner begins is within its bound
  way_within : (entry : ℕ) (who : Owner) (longest : Longest) (n : ℕ) → IsOwnersBound img entry who longest
      → FreshWay img 0 (starts_at entry who) n → IsNoMore longest n
  way_within entry who (Steps most) n bound way = bound.most n way
  way_within entry who (Loop address) n bound way = tt

  module _ (b : Bounds) (are : AreBounds img b) where
    init_within : (longest : Longest) (start : Point) (n : ℕ) → b.init ≡ longest → start ≡ starts_at 0 owner.Starting
        → FreshWay img 0 start n → IsNoMore longest n
    init_within longest start n told begins way =
        way_within 0 owner.Starting longest n (subst (IsOwnersBound img 0 owner.Starting) told are.init)
        (subst (λ p. FreshWay img 0 p n) begins way)

    handler_within : (irq index : ℕ) (longest : Longest) (start : Point) (n : ℕ) → BeginsAtEntry img irq start
        → IsNumbered img index irq → IsToldOf b (owner.Handling index) longest → FreshWay img 0 start n
        → IsNoMore longest n
    handler_within irq index longest start n begins is told way =
        let row : HandlerBound = told.0 in
        let bound : IsHandlersBound img row =
        all_has (IsHandlersBound img) b.handlers.items row are.handlers.each told.1
        in
        let same : row.index ≡ begins.index =
        told.2 ∙ (checked rule.Numbers).numbers index begins.index is.row begins.row is.at begins.at
        (is.number ∙ sym begins.number) in
        let there : handler_at img begins.index ≡ Some begins.handler =
        ap (λ o. then_from o (λ r. r.handler)) begins.at ∙ begins.enabled in
        let handlers : bound.handler ≡ begins.handler =
        same_Some bound.handler begins.handler (sym bound.enabled ∙ ap (handler_at img) same ∙ there) in
        let place : start ≡ starts_at bound.handler.entry (owner.Handling row.index) =
        begins.point ∙ ap (λ (h : Handler). starts_at h.entry (owner.Handling begins.index)) (sym handlers)
        ∙ ap (λ i. starts_at bound.handler.entry (owner.Handling i)) (sym same) in
        subst (λ l. IsNoMore l n) told.3
        (way_within bound.handler.entry (owner.Handling row.index) row.longest n bound.bound
        (subst (λ p. FreshWay img 0 p n) place way))

    -- a way of a job from where it begins is within the line of the job
    job_within : (whose : Whose) (start : Point) (n : ℕ) → BeginsAt img whose start → FreshWay img 0 start n
        → (who : Owner) (longest : Longest) → IsOf img who whose → IsToldOf b who longest → IsNoMore longest n
    job_within Init start n begins way owner.Starting longest is told = init_within longest start n told begins way
    job_within Init start n begins way owner.Thread longest is told = absurd is
    job_within Init start n begins way (owner.Handling index) longest is told = absurd is
    job_within Thread start n begins way owner.Starting longest is told = absurd is
    job_within Thread start n begins way owner.Thread longest is told = absurd told
    job_within Thread start n begins way (owner.Handling index) longest is told = absurd is
    job_within (HandlerOf irq) start n begins way owner.Starting longest is told = absurd is
    job_within (HandlerOf irq) start n begins way owner.Thread longest is told = absurd is
    job_within (HandlerOf irq) start n begins way (owner.Handling index) longest is told =
        handler_within irq index longest start n begins is told way

    pub jobs_below : (jobs : List SeenJob) (ps : List Point) → AreJobsAt img jobs ps
        → AllByRecursion (KeepsLines img b IsBelow) jobs
    jobs_below [] ps at = tt
    jobs_below (job ∷ jobs) [] at = absurd at
    jobs_below (job ∷ jobs) (p ∷ ps) at = (
      λ who longest is told.
          next_within longest job.steps
          (job_within job.whose at.0.start (suc job.steps) at.0.begins
          (came_way img 0 all_left at.0.start job.steps at.0.now p all_few at.0.came) who longest is told),
      jobs_below jobs ps at.1,
    )

    pub in_time : (w : Watch) (ps : List Point) (frames : List (List ℕ)) → IsTied img w ps frames → AreInTime img b w
    in_time w ps frames tied = record {
      going = jobs_below w.jobs ps (jobs_of img w ps frames tied);
      ended = all_weaker (IsWholeJob img) (KeepsLines img b IsNoMore)
          (λ job whole who longest is told.
          job_within job.whose whole.start job.steps whole.begins whole.way who longest is told) w.ended tied.ended;
    }

    -- a way from where a section is entered is within the section's line
    section_way_within : (entered : Point → Type 0) (longest : Longest) (p : Point) (n : ℕ)
        → IsSectionBound img entered longest → entered p → FreshWay img (depth_inside p) p n → IsNoMore longest n
    section_way_within entered (Steps most) p n bound is way = bound.most p n is way
    section_way_within entered (Loop address) p n bound is way = tt

    abbrev KeepsRow : SectionBound → Type 0
    KeepsRow row = IsSectionBound img (Enters img row.owner row.section) row.longest

    stay_within : (whose : Whose) (start entry : Point) (i : Instr) (x : Section) (n : ℕ) → BeginsAt img whose start
        → entry.owner ≡ start.owner → EntersAt img entry i x → FreshWay img (depth_inside entry) entry n
        → (row : SectionBound) → Contains b.sections.items row → IsOf img row.owner whose → row.section ≡ x
        → IsNoMore row.longest n
    stay_within whose start entry i x n begins own enters way row has is same =
        let bound : KeepsRow row = all_has KeepsRow b.sections.items row are.sections.each has in
        let here : Enters img row.owner row.section entry = record {
          mine = own ∙ sym (owner_of row.owner whose start begins is);
          instr = i;
          enters = subst (λ y. EntersAt img entry i y) (sym same) enters;
        } in
        section_way_within (Enters img row.owner row.section) row.longest entry n bound here way

    stays_below : (job : SeenJob) (p : Point) → (at : IsJobAt img job p) → (stays : List Stay) (opened : List Opened)
        → AreStays img at.now p stays opened → AllByRecursion (KeepsSectionLines img b IsBelow job.whose) stays
    stays_below job p at [] opened are = tt
    stays_below job p at (stay ∷ stays) [] are = absurd are
    stays_below job p at (stay ∷ stays) (o ∷ outer) are =
        let one = are.0 in (
          λ row has is same.
              next_within row.longest stay.steps
              (stay_within job.whose at.start one.entry one.instr stay.section (suc stay.steps) at.begins
              (sym one.owner ∙ came_owner img 0 all_left at.start job.steps at.now p at.came) one.enters
              (came_way img (depth_inside one.entry) one.from one.entry stay.steps at.now p one.few one.came) row has is
              same),
          stays_below job p at stays outer are.1,
        )

    all_stays_below : (jobs : List SeenJob) (ps : List Point) → AreJobsAt img jobs ps
        → AllByRecursion (λ job. AllByRecursion (KeepsSectionLines img b IsBelow job.whose) job.inside) jobs
    all_stays_below [] ps at = tt
    all_stays_below (job ∷ jobs) [] at = absurd at
    all_stays_below (job ∷ jobs) (p ∷ ps) at =
        (stays_below job p at.0 job.inside p.inside at.0.stays, all_stays_below jobs ps at.1)

    pub left_in_time : (w : Watch) (ps : List Point) (frames : List (List ℕ)) → IsTied img w ps frames
        → AreLeftInTime img b w
    left_in_time w ps frames tied = record {
      inside = all_stays_below w.jobs ps (jobs_of img w ps frames tied);
      left = all_weaker (λ (one : LeftStay). IsWholeStay img one.whose one.stay)
          (λ (one : LeftStay). KeepsSectionLines img b IsNoMore one.whose one.stay)
          (λ one whole row has is same.
          stay_within one.whose whole.start whole.entry whole.instr one.stay.section one.stay.steps whole.begins
          whole.owner whole.enters whole.way row has is same)
          w.left tied.left;
    }

pub jobs_end_in_time : JobsEndInTime
jobs_end_in_time img b events checked are =
    let at = reached img checked events in
    in_time img checked b are (watched img events) (at.point ∷ at.below)
    (frames_of (core_after img (reset img) events)) at.tied

pub sections_end_in_time : SectionsEndInTime
sections_end_in_time img b events checked are =
    let at = reached img checked events in
    left_in_time img checked b are (watched img events) (at.point ∷ at.below)
    (frames_of (core_after img (reset img) events)) at.tied

-- what is in use is within what is needed
pub stack_is_enough : StackIsEnough
stack_is_enough img b events checked are =
    let at = reached img checked events in
    let need = within_need img (core_after img (reset img) events) at.point at.below at.fits in
    let told = are.stack in
    omega (arith, need, told)

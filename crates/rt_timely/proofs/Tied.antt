-- What one knows of the jobs of a run is tied to the points at which a core runs: each job came from its beginning to
-- its point by its steps, and from the entering of each section that is open there by the steps since.
use Rattle.std.proofs.Common.{◌≡◌, ℕ, ◌<◌, List, [], ◌∷◌, slice_get, Some}
use Rattle.std.specs.List.{AllByRecursion}
use Rattle.rt_code.specs.Image.{Image}
use Rattle.rt_code.specs.declared.image.Handler.{Handler}
use Rattle.rt_code.specs.declared.image.IrqRow.{IrqRow}
use Rattle.rt_code.specs.declared.instr.Instr.{Instr}
use Rattle.rt_points.specs.ExecutionPriority.{owner_value, execution_priority}
use Rattle.rt_points.specs.Leading.{kind_of, starts_at}
use Rattle.rt_points.specs.Point.{Point}
use Rattle.rt_points.specs.Rules.{EntersAt}
use Rattle.rt_points.specs.declared.point.Opened.{Opened}
use Rattle.rt_points.specs.declared.point.Owner.TheVariants as owner
use Rattle.rt_bounds.specs.Bounds.{depth_inside}
use Rattle.rt_bounds.specs.CountedWays.{FreshWay, Left, all_left}
use Rattle.rt_timely.specs.Watching.{Whose, Init, Thread, Handler as HandlerOf, Stay, SeenJob, Watch}
use Rattle.rt_timely.proofs.Came.{Came}
use Rattle.rt_timely.proofs.Counted.{AreCounted, AreFew}

module _ (img : Image) where
  -- a handler begins at its entry
  pub record BeginsAtEntry (irq : ℕ) (start : Point) : Type 0 where
    pub index : ℕ
    pub row : IrqRow
    pub handler : Handler
    pub at : slice_get img.irqs index ≡ Some row
    pub number : row.number ≡ irq
    pub enabled : row.handler ≡ Some handler
    pub point : start ≡ starts_at handler.entry (owner.Handling index)

  -- where a job begins
  abbrev pub BeginsAt : Whose → Point → Type 0
  BeginsAt Init start = start ≡ starts_at 0 owner.Starting
  BeginsAt Thread start = start.owner ≡ owner.Thread
  BeginsAt (HandlerOf irq) start = BeginsAtEntry irq start

  -- a stay in this open section, inside these, of the job at a point, whose loops may still turn so often
  pub record IsStay (now : Left) (p : Point) (stay : Stay) (o : Opened) (outer : List Opened) : Type 0 where
    pub entry : Point
    pub instr : Instr
    pub enters : EntersAt img entry instr stay.section
    pub owner : p.owner ≡ entry.owner
    pub around : entry.inside ≡ outer
    pub opened : o ≡ record { section = stay.section; kind = kind_of instr }
    pub from : Left
    pub few : AreFew from
    pub came : Came img (depth_inside entry) from entry stay.steps now p
    pub some : 0 < stay.steps
    pub outside : stay.outside ≡ execution_priority img p.owner outer
    pub within : stay.within ≡ execution_priority img p.owner (o ∷ outer)

  -- stays in these open sections
  abbrev pub AreStays : Left → Point → List Stay → List Opened → Type 0
  AreStays now p [] [] = Unit {0}
  AreStays now p (stay ∷ stays) (o ∷ outer) = IsStay now p stay o outer × AreStays now p stays outer
  AreStays now p stays opened = ⊥

  -- a job is at a point
  pub record IsJobAt (job : SeenJob) (p : Point) : Type 0 where
    pub start : Point
    pub begins : BeginsAt job.whose start
    pub now : Left
    pub came : Came img 0 all_left start job.steps now p
    pub value : job.value ≡ owner_value img p.owner
    pub stays : AreStays now p job.inside p.inside

  -- each job is at its point
  abbrev pub AreJobsAt : List SeenJob → List Point → Type 0
  AreJobsAt [] [] = Unit {0}
  AreJobsAt (job ∷ jobs) (p ∷ ps) = IsJobAt job p × AreJobsAt jobs ps
  AreJobsAt jobs ps = ⊥

  -- a job is at a point with these slots, and its loops may still turn as often as the slots say
  pub record IsRunning (job : SeenJob) (p : Point) (slots : List ℕ) : Type 0 where
    pub at : IsJobAt job p
    pub counted : AreCounted img p.owner p slots at.now

  -- each job is at its point, with the slots of its frame
  abbrev pub AreRunning : List SeenJob → List Point → List (List ℕ) → Type 0
  AreRunning [] [] [] = Unit {0}
  AreRunning (job ∷ jobs) (p ∷ ps) (slots ∷ frames) = IsRunning job p slots × AreRunning jobs ps frames
  AreRunning jobs ps frames = ⊥

  -- the steps of a job that has ended are a way
  pub record IsWholeJob (job : SeenJob) : Type 0 where
    pub start : Point
    pub begins : BeginsAt job.whose start
    pub way : FreshWay img 0 start job.steps

  -- the steps of a stay that is over are a way
  pub record IsWholeStay (whose : Whose) (stay : Stay) : Type 0 where
    pub start : Point
    pub begins : BeginsAt whose start
    pub entry : Point
    pub instr : Instr
    pub enters : EntersAt img entry instr stay.section
    pub owner : entry.owner ≡ start.owner
    pub way : FreshWay img (depth_inside entry) entry stay.steps

  -- what one knows is tied to these points, and to the frames of those who are there
  pub record IsTied (w : Watch) (ps : List Point) (frames : List (List ℕ)) : Type 0 where
    pub running : AreRunning w.jobs ps frames
    pub ended : AllByRecursion IsWholeJob w.ended
    pub left : AllByRecursion (λ one. IsWholeStay one.whose one.stay) w.left

  are_at : (jobs : List SeenJob) (ps : List Point) (frames : List (List ℕ)) → AreRunning jobs ps frames
      → AreJobsAt jobs ps
  are_at [] [] [] running = tt
  are_at [] [] (slots ∷ frames) running = absurd running
  are_at [] (p ∷ ps) frames running = absurd running
  are_at (job ∷ jobs) [] frames running = absurd running
  are_at (job ∷ jobs) (p ∷ ps) [] running = absurd running
  are_at (job ∷ jobs) (p ∷ ps) (slots ∷ frames) running = (running.0.at, are_at jobs ps frames running.1)

  -- so its jobs are at these points
  pub jobs_of : (w : Watch) (ps : List Point) (frames : List (List ℕ)) → IsTied w ps frames → AreJobsAt w.jobs ps
  jobs_of w ps frames tied = are_at w.jobs ps frames tied.running

-- A step keeps what one knows of the jobs tied to the points.
use Rattle.std.proofs.Common.{◌≡◌, ◌≢◌, ℕ, suc, ◌≤◌, List, [], ◌∷◌, length, drop, map, take, Option, Some, None}
use Rattle.std.proofs.Common.{refl, sym, ap, subst, ◌∙◌, arith}
use Rattle.std.specs.List.{AllByRecursion}
use Rattle.std.proofs.lemmas.Bool.{false≢true}
use Rattle.rt_lemmas.proofs.Membership.{all_append}
use Rattle.rt_ids.specs.Lists.{then_from}
use Rattle.rt_ids.specs.declared.ids.BodyId.TheVariants as body
use Rattle.rt_ids.specs.declared.ids.Section.{Section}
use Rattle.rt_trace.specs.declared.item.What.{What}
use Rattle.rt_trace.specs.declared.item.What.TheVariants as what
use Rattle.rt_code.specs.Image.{Image}
use Rattle.rt_code.specs.declared.instr.Instr.{Instr}
use Rattle.rt_core.specs.Core.{Context, Core}
use Rattle.rt_core.specs.Priority.{execution}
use Rattle.rt_core.specs.Stepping.{step}
use Rattle.rt_points.specs.Checked.{IsChecked}
use Rattle.rt_points.specs.ExecutionPriority.{owner_value, execution_priority}
use Rattle.rt_points.specs.Leading.{IsPoint, LeadsTo, handler_at, kind_of}
use Rattle.rt_points.specs.Point.{Point}
use Rattle.rt_points.specs.Rules.{EntersAt}
use Rattle.rt_points.specs.declared.point.Opened.{Opened}
use Rattle.rt_bounds.specs.CountedWays.{Left, MayGo, all_left, left_after}
use Rattle.rt_bounds.specs.Holding.{BeginsAt as BeginsThere}
use Rattle.rt_bounds.specs.Ways.{Goes}
use Rattle.rt_safe.specs.Inside.RunsAtPoints.{is_starting, RunsAtPoints}
use Rattle.rt_safe.specs.Inside.Moved.{IsSilent, IsTaken, GoesOn, IsOpened, IsClosed, IsServing, IsBack, Moved, Taken}
use Rattle.rt_safe.specs.Inside.Moved.{Gone, Opened_one, Closed_one, Served, Back}
use Rattle.rt_safe.proofs.Execution.{execution_is}
use Rattle.rt_timely.specs.Watching.{Whose, Thread, Handler, Stay, SeenJob, LeftStay, Watch, begun, longer, stepped}
use Rattle.rt_timely.specs.Watching.{inside_too, outside_again, on_running, ending, leaving, entered, seen_by}
use Rattle.rt_timely.specs.Watching.{after_step}
use Rattle.rt_timely.proofs.Acting.{Acts}
use Rattle.rt_timely.proofs.Came.{Came, Starts, Came_on, came_owner, came_way}
use Rattle.rt_timely.proofs.Counted.{AreCounted, all_few, counted_behind, counted_first, counted_on, may_go}
use Rattle.rt_timely.proofs.Ends.{back_frames, served_frames, served_leads, taken_frames}
use Rattle.rt_timely.proofs.Frames.{frames_below, frames_of, line_acts}
use Rattle.rt_timely.proofs.Tied.{BeginsAt, IsStay, AreStays, IsJobAt, IsRunning, AreRunning, IsWholeJob}
use Rattle.rt_timely.proofs.Tied.{IsWholeStay, IsTied}

-- a step that tells of no job and no section is a step of the job that runs, and no more
pub silent_seen : (before after : Core) (w : Watch) (shown : Option What) → IsSilent shown
    → seen_by before after shown w ≡ record w { jobs = on_running stepped w.jobs }
silent_seen before after w None is = refl
silent_seen before after w (Some (what.Emit value)) is = refl
silent_seen before after w (Some (what.Post irq)) is = refl
silent_seen before after w (Some (what.Clock time)) is = refl
silent_seen before after w (Some (what.End body.Idle)) is = refl
silent_seen before after w shown is = absurd is

module _ (img : Image) where
  -- the job that ran, whatever it becomes
  pub running_becomes : (f : SeenJob → SeenJob) (p q : Point) (qs : List Point) (old new : List ℕ)
      (frames : List (List ℕ))
      → ((job : SeenJob) → IsRunning img job p old → IsRunning img (f job) q new)
      → (jobs : List SeenJob) → AreRunning img jobs (p ∷ qs) (old ∷ frames)
      → AreRunning img (on_running f jobs) (q ∷ qs) (new ∷ frames)
  running_becomes f p q qs old new frames on [] at = absurd at
  running_becomes f p q qs old new frames on (job ∷ jobs) at = (on job at.0, at.1)

  others_stay : (p : Point) (qs : List Point) (old : List ℕ) (frames : List (List ℕ)) (jobs : List SeenJob)
      → AreRunning img jobs (p ∷ qs) (old ∷ frames) → AreRunning img (drop 1 jobs) qs frames
  others_stay p qs old frames [] at = absurd at
  others_stay p qs old frames (job ∷ jobs) at = at.1

  -- a job that ends at a point has taken a way with that step
  ends_whole : (p : Point) (qs : List Point) (old : List ℕ) (frames : List (List ℕ)) (jobs : List SeenJob)
      → AreRunning img jobs (p ∷ qs) (old ∷ frames) → AllByRecursion (IsWholeJob img) (ending jobs)
  ends_whole p qs old frames [] at = absurd at
  ends_whole p qs old frames (job ∷ jobs) at =
      let here : IsJobAt img job p = at.0.at in (
        record {
          start = here.start;
          begins = here.begins;
          way = came_way img 0 all_left here.start job.steps here.now p all_few here.came;
        },
        tt,
      )

  module _ (p q : Point) (point : IsPoint img p) (leads : LeadsTo img p q) (owner : q.owner ≡ p.owner)
      (old new : List ℕ) (acts : Acts leads.line.0 p.address q.address old new) where
    goes : (depth : ℕ) → depth ≤ length q.inside → Goes img depth p q
    goes depth enough = record { leads = leads; owner = owner; inside = enough }

    -- stays in sections that are still open behind a line are one step longer
    stays_on : (now : Left) → MayGo img now p q → (stays : List Stay) (opened : List Opened)
        → length opened ≤ length q.inside → AreStays img now p stays opened
        → AreStays img (left_after now p q) q (map longer stays) opened
    stays_on now may [] [] enough are = tt
    stays_on now may [] (o ∷ outer) enough are = absurd are
    stays_on now may (stay ∷ stays) [] enough are = absurd are
    stays_on now may (stay ∷ stays) (o ∷ outer) enough are =
        let one = are.0 in
        let around : length one.entry.inside ≡ length outer = ap length one.around in (
          record {
            entry = one.entry;
            instr = one.instr;
            enters = one.enters;
            owner = owner ∙ one.owner;
            around = one.around;
            opened = one.opened;
            from = one.from;
            few = one.few;
            came = Came_on stay.steps now p q one.came
                (goes (suc (length one.entry.inside)) (omega (arith, enough, around))) may;
            some = omega arith;
            outside = one.outside ∙ ap (λ o. execution_priority img o outer) (sym owner);
            within = one.within ∙ ap (λ who. execution_priority img who (o ∷ outer)) (sym owner);
          },
          stays_on now may stays outer (omega (arith, enough)) are.1,
        )

    may : (job : SeenJob) → (at : IsRunning img job p old) → MayGo img at.at.now p q
    may job at = may_go img p q point leads owner old new acts at.at.now at.counted

    -- the job that ran is behind the line, in these stays
    job_on : (job later : SeenJob) → (at : IsRunning img job p old) → later.whose ≡ job.whose
        → later.value ≡ job.value → later.steps ≡ suc job.steps
        → AreStays img (left_after at.at.now p q) q later.inside q.inside → IsRunning img later q new
    job_on job later at whose value steps stays =
        let here : IsJobAt img job p = at.at in
        record {
          at = record {
            start = here.start;
            begins = subst (λ (who : Whose). BeginsAt img who here.start) (sym whose) here.begins;
            now = left_after here.now p q;
            came = subst (λ n. Came img 0 all_left here.start n (left_after here.now p q) q) (sym steps)
                (Came_on job.steps here.now p q here.came (goes 0 (omega arith)) (may job at));
            value = value ∙ here.value ∙ ap (owner_value img) (sym owner);
            stays = stays;
          };
          counted = counted_on img p q point leads owner old new acts here.now at.counted;
        }

    stepped_on : q.inside ≡ p.inside → (job : SeenJob) → IsRunning img job p old → IsRunning img (stepped job) q new
    stepped_on inside job at =
        let now : Left = at.at.now in
        let long : length q.inside ≡ length p.inside = ap length inside in
        job_on job (stepped job) at refl refl refl
        (subst (AreStays img (left_after now p q) q (map longer job.inside)) (sym inside)
        (stays_on now (may job at) job.inside p.inside (omega (arith, long)) at.at.stays))

    -- behind an entering the job is inside one section more, by one step
    opened_on : (x : Section) (i : Instr) → EntersAt img p i x
        → q.inside ≡ record { section = x; kind = kind_of i } ∷ p.inside → (before after : Core)
        → execution before ≡ execution_priority img p.owner p.inside
        → execution after ≡ execution_priority img q.owner q.inside → (n : ℕ) → (job : SeenJob)
        → IsRunning img job p old → IsRunning img (inside_too (entered before after x n) (stepped job)) q new
    opened_on x i enters inside before after outside within n job at =
        let now : Left = at.at.now in
        let o : Opened = record { section = x; kind = kind_of i } in
        let long : length q.inside ≡ suc (length p.inside) = ap length inside in
        let stay : IsStay img (left_after now p q) q (entered before after x n) o p.inside =
        record {
          entry = p;
          instr = i;
          enters = enters;
          owner = owner;
          around = refl;
          opened = refl;
          from = now;
          few = at.counted.few;
          came = Came_on 0 now p q Starts (goes (suc (length p.inside)) (omega (arith, long))) (may job at);
          some = omega arith;
          outside = outside ∙ ap (λ who. execution_priority img who p.inside) (sym owner);
          within = within ∙ ap (execution_priority img q.owner) inside;
        } in
        job_on job (inside_too (entered before after x n) (stepped job)) at refl refl refl
        (subst (AreStays img (left_after now p q) q (entered before after x n ∷ map longer job.inside)) (sym inside)
        (stay, stays_on now (may job at) job.inside p.inside (omega (arith, long)) at.at.stays))

    module _ (o : Opened) (inside : p.inside ≡ o ∷ q.inside) where
      less_stays : (now : Left) → MayGo img now p q → (stays : List Stay) → AreStays img now p stays (o ∷ q.inside)
          → AreStays img (left_after now p q) q (drop 1 (map longer stays)) q.inside
      less_stays now may [] are = absurd are
      less_stays now may (stay ∷ stays) are = stays_on now may stays q.inside (omega arith) are.1

      -- behind a leaving the job is inside one section less
      closed_on : (job : SeenJob) → IsRunning img job p old → IsRunning img (outside_again (stepped job)) q new
      closed_on job at =
          job_on job (outside_again (stepped job)) at refl refl refl
          (less_stays at.at.now (may job at) job.inside
          (subst (AreStays img at.at.now p job.inside) inside at.at.stays))

      whole_stays : (job : SeenJob) → (at : IsJobAt img job p) → (stays : List Stay)
          → AreStays img at.now p stays (o ∷ q.inside)
          → AllByRecursion (λ (one : LeftStay). IsWholeStay img one.whose one.stay)
          (map (λ stay. record { whose = job.whose; stay = longer stay }) (take 1 stays))
      whole_stays job at [] are = absurd are
      whole_stays job at (stay ∷ stays) are =
          let one = are.0 in (
            record {
              start = at.start;
              begins = at.begins;
              entry = one.entry;
              instr = one.instr;
              enters = one.enters;
              owner = sym one.owner ∙ came_owner img 0 all_left at.start job.steps at.now p at.came;
              way = came_way img (suc (length one.entry.inside)) one.from one.entry stay.steps at.now p one.few
                  one.came;
            },
            tt,
          )

      -- whose stay, with the leaving, was a way
      leaves_whole : (qs : List Point) (frames : List (List ℕ)) (jobs : List SeenJob)
          → AreRunning img jobs (p ∷ qs) (old ∷ frames)
          → AllByRecursion (λ (one : LeftStay). IsWholeStay img one.whose one.stay) (leaving jobs)
      leaves_whole qs frames [] at = absurd at
      leaves_whole qs frames (job ∷ jobs) at =
          let here : IsJobAt img job p = at.0.at in
          whole_stays job here job.inside (subst (AreStays img here.now p job.inside) inside here.stays)

  -- a job that begins with nothing open
  begun_at : (whose : Whose) (after : Core) (q : Point) (slots : List ℕ) → BeginsAt img whose q → q.inside ≡ []
      → execution after ≡ execution_priority img q.owner q.inside → AreCounted img q.owner q slots all_left
      → IsRunning img (begun whose after) q slots
  begun_at whose after q slots begins empty is counted = record {
    at = record {
      start = q;
      begins = begins;
      now = all_left;
      came = Starts;
      value = is ∙ ap (execution_priority img q.owner) empty;
      stays = subst (AreStays img all_left q []) (sym empty) tt;
    };
    counted = counted;
  }

module _ (img : Image) (checked : IsChecked img) (before : Core) (p : Point) (qs : List Point)
    (at : RunsAtPoints img before p qs) (w : Watch) (tied : IsTied img w (p ∷ qs) (frames_of before)) (after : Core)
    (q : Point) (rest : List Point) (fits : RunsAtPoints img after q rest) (shown : Option What)
    (is : step img before ≡ (after, shown)) where
  -- the execution priorities before the step and after it
  outside : execution before ≡ execution_priority img p.owner p.inside
  outside = execution_is img checked before p qs at

  within : execution after ≡ execution_priority img q.owner q.inside
  within = execution_is img checked after q rest fits

  abbrev old : List ℕ
  old = before.processor.slots

  abbrev new : List ℕ
  new = after.processor.slots

  abbrev others : List (List ℕ)
  others = frames_below before.below

  abbrev IsKept : Option What → Type 0
  IsKept item = IsTied img (after_step before w (after, item)) (q ∷ rest) (frames_of after)

  tied_by : (v : Watch) (frames : List (List ℕ)) (ps : List Point) → AreRunning img v.jobs ps frames
      → AllByRecursion (IsWholeJob img) v.ended
      → AllByRecursion (λ (one : LeftStay). IsWholeStay img one.whose one.stay) v.left → q ∷ rest ≡ ps
      → frames_of after ≡ frames → IsTied img v (q ∷ rest) (frames_of after)
  tied_by v frames ps jobs ended left points same = record {
    running = subst (λ (fs : List (List ℕ)). AreRunning img v.jobs (q ∷ rest) fs) (sym same)
        (subst (λ (rs : List Point). AreRunning img v.jobs rs frames) (sym points) jobs);
    ended = ended;
    left = left;
  }

  -- the line of the job that runs acts on its slots alone
  module _ (goes : GoesOn img before p qs shown q rest) where
    acts : Acts goes.leads.line.0 p.address q.address old new
    acts = (line_acts img checked before p qs at goes.none after shown is q rest fits goes.leads).0

    same_frames : frames_of after ≡ new ∷ others
    same_frames =
        ap (λ (below : List Context). new ∷ frames_below below)
        (line_acts img checked before p qs at goes.none after shown is q rest fits goes.leads).1

    same_points : q ∷ rest ≡ q ∷ qs
    same_points = ap (λ (ps : List Point). q ∷ ps) goes.below

  gone_kept : GoesOn img before p qs shown q rest → q.inside ≡ p.inside → IsSilent shown → IsKept shown
  gone_kept goes inside silent =
      let later : Watch = record w { jobs = on_running stepped w.jobs; steps = suc w.steps } in
      let same : after_step before w (after, shown) ≡ later =
      ap (λ (v : Watch). record v { steps = suc w.steps }) (silent_seen before after w shown silent) in
      subst (λ v. IsTied img v (q ∷ rest) (frames_of after)) (sym same)
      (tied_by later (new ∷ others) (q ∷ qs)
      (running_becomes img stepped p q qs old new others
      (stepped_on img p q at.running.point goes.leads goes.owner old new (acts goes) inside) w.jobs tied.running)
      tied.ended tied.left (same_points goes) (same_frames goes))

  opened_kept : IsOpened img before p qs shown q rest → IsKept shown
  opened_kept one =
      subst IsKept (sym one.shows)
      (tied_by (after_step before w (after, Some (what.Enter one.section))) (new ∷ others) (q ∷ qs)
      (running_becomes img (λ job. inside_too (entered before after one.section w.steps) (stepped job)) p q qs old new
      others
      (opened_on img p q at.running.point one.goes.leads one.goes.owner old new (acts one.goes) one.section one.instr
      one.enters one.inside before after outside within w.steps)
      w.jobs tied.running)
      tied.ended tied.left (same_points one.goes) (same_frames one.goes))

  closed_kept : IsClosed img before p qs shown q rest → IsKept shown
  closed_kept one =
      subst IsKept (sym one.shows)
      (tied_by (after_step before w (after, Some (what.Leave one.opened.section one.value))) (new ∷ others) (q ∷ qs)
      (running_becomes img (λ job. outside_again (stepped job)) p q qs old new others
      (closed_on img p q at.running.point one.goes.leads one.goes.owner old new (acts one.goes) one.opened one.inside)
      w.jobs tied.running)
      tied.ended
      (all_append (λ (l : LeftStay). IsWholeStay img l.whose l.stay) (leaving w.jobs) w.left
      (leaves_whole img p q at.running.point one.goes.leads one.goes.owner old new (acts one.goes) one.opened one.inside
      qs others w.jobs tied.running) tied.left)
      (same_points one.goes) (same_frames one.goes))

  served_kept : IsServing img before p qs shown q rest → IsKept shown
  served_kept one =
      let differs : p.owner ≢ q.owner = λ same.
      false≢true (ap is_starting (sym one.behind ∙ sym same ∙ one.before)) in
      let counted : AreCounted img q.owner q new all_left =
      counted_behind img q.owner p q new at.running.point
      (served_leads img checked before p qs at after shown is q rest fits one) refl differs in
      subst IsKept (sym one.shows)
      (tied_by (after_step before w (after, Some (what.End body.Init))) (new ∷ others) (q ∷ qs)
      (running_becomes img (λ job. begun Thread after) p q qs old new others
      (λ job here. begun_at img Thread after q new one.behind one.empty within counted) w.jobs tied.running)
      (all_append (IsWholeJob img) (ending w.jobs) w.ended (ends_whole img p qs old others w.jobs tied.running)
      tied.ended)
      tied.left (ap (λ (ps : List Point). q ∷ ps) one.below)
      (served_frames img checked before p qs at after shown is q rest fits one))

  taken_kept : IsTaken img before p qs shown q rest → IsKept shown
  taken_kept one =
      let frames = taken_frames img checked before p qs at after shown is q rest fits one in
      let there : handler_at img one.index ≡ Some one.handler =
      ap (λ o. then_from o (λ r. r.handler)) one.at ∙ one.enabled in
      let begins : BeginsThere img q.owner q.address =
      subst (λ (r : Point). BeginsThere img r.owner r.address) (sym one.point) (one.handler, there, refl) in
      let job : IsRunning img (begun (Handler one.row.number) after) q frames.0 =
      begun_at img (Handler one.row.number) after q frames.0
      (record {
        index = one.index;
        row = one.row;
        handler = one.handler;
        at = one.at;
        number = refl;
        enabled = one.enabled;
        point = one.point;
      })
      (ap (λ (r : Point). r.inside) one.point) within (counted_first img q.owner q frames.0 begins) in
      subst IsKept (sym one.shows)
      (tied_by (after_step before w (after, Some (what.Take one.row.number one.depth))) (frames.0 ∷ frames_of before)
      (q ∷ p ∷ qs) (job, tied.running) tied.ended tied.left (ap (λ (ps : List Point). q ∷ ps) one.below) frames.1)

  back_kept : IsBack img before p qs shown q rest → IsKept shown
  back_kept one =
      subst IsKept (sym one.shows)
      (tied_by (after_step before w (after, Some (what.Ret one.irq))) others qs
      (others_stay img p qs old others w.jobs tied.running)
      (all_append (IsWholeJob img) (ending w.jobs) w.ended (ends_whole img p qs old others w.jobs tied.running)
      tied.ended)
      tied.left (sym one.back) (back_frames img checked before p qs at after shown is q rest fits one))

  pub step_kept : Moved img before p qs shown q rest → IsKept shown
  step_kept (Taken one) = taken_kept one
  step_kept (Gone one inside silent) = gone_kept one inside silent
  step_kept (Opened_one one) = opened_kept one
  step_kept (Closed_one one) = closed_kept one
  step_kept (Served one) = served_kept one
  step_kept (Back one) = back_kept one

-- Where `init` ends the thread goes on with interrupts served; where a handler returns, what it interrupted runs on.
use Rattle.std.proofs.Common.{◌≡◌, ◌≢◌, ℕ, suc, false, List, [], ◌∷◌, Option, Some, None, refl, sym, ap, subst, ◌∙◌}
use Rattle.std.proofs.Common.{arith}
use Rattle.std.proofs.lemmas.Bool.{false≢true}
use Rattle.rt_ids.specs.declared.ids.BodyId.TheVariants as body
use Rattle.rt_code.specs.Effect.{unchecked_effect}
use Rattle.rt_code.specs.Image.{Image}
use Rattle.rt_code.specs.Stack.{interrupted_context}
use Rattle.rt_code.specs.declared.instr.Instr.{Instr}
use Rattle.rt_code.specs.declared.instr.Instr.TheVariants as instr
use Rattle.rt_code.specs.declared.instr.Note.{Note}
use Rattle.rt_code.specs.declared.instr.Note.TheVariants as note
use Rattle.rt_trace.specs.declared.item.What.TheVariants as what
use Rattle.rt_core.specs.Core.{Context, Core}
use Rattle.rt_core.specs.Leading.{core_serving, in_context}
use Rattle.rt_core.specs.Outcome.{settle}
use Rattle.rt_core.specs.Priority.{pick}
use Rattle.rt_core.specs.Stepping.{step, go_on, with_note}
use Rattle.rt_core.specs.Transfer.{outcome_of_return}
use Rattle.rt_points.specs.declared.point.Owner.TheVariants.{Starting, Thread, Handling}
use Rattle.rt_points.specs.Checked.{IsChecked}
use Rattle.rt_points.specs.Leading.{IsPoint, Leads, owner_after}
use Rattle.rt_points.specs.ExecutionPriority.{owner_value, frame_of}
use Rattle.rt_points.specs.Point.{Point, sections}
use Rattle.rt_safe.specs.Inside.Moved.{Served, Back}
use Rattle.rt_safe.specs.Inside.RunsAtPoints.{is_starting, base_inside, mask_inside, base_under, IsLowest, IsStacked}
use Rattle.rt_safe.specs.Inside.RunsAtPoints.{RunsAtPoints}
use Rattle.rt_safe.specs.Inside.Steps.{insides_of, Steps}
use Rattle.rt_safe.proofs.Advancing.{line_steps}
use Rattle.rt_safe.proofs.PointPriorities.{priority_within, unmasked}
use Rattle.rt_safe.proofs.Lines.{HasLine}

thread_differs : Thread ≢ Starting
thread_differs same = false≢true (ap is_starting same)

-- `init` interrupted nobody, and so does the thread behind it
on_thread : (img : Image) (p r : Point) → p.owner ≡ Starting → r.owner ≡ Thread
    → (qs : List Point) (below : List Context) → IsStacked img p qs below → IsStacked img r qs below
on_thread img p r starting thread [] [] stacked = subst IsLowest (sym thread) tt
on_thread img p r starting thread [] (x ∷ below) stacked = absurd stacked
on_thread img p r starting thread (q ∷ qs) [] stacked = absurd stacked
on_thread img p r starting thread (q ∷ qs) (x ∷ below) stacked =
    absurd (false≢true (ap is_starting (sym stacked.0.handles ∙ starting)))

module _ (img : Image) (checked : IsChecked img) (c : Core) (p : Point) (qs : List Point)
    (fits : RunsAtPoints img c p qs)
    (line : HasLine img p) (picked : pick img c ≡ None) where
  module _ (is : line.instr ≡ instr.Serve) (tells : line.told ≡ Some (note.End body.Init))
      (starting : p.owner ≡ Starting)
      (none : p.inside ≡ []) where
    abbrev thread : Point
    thread = record { address = suc p.address; owner = Thread; inside = [] }

    same_serve : ◌≡◌ {A = Instr × Option Note} (line.instr, line.told) (instr.Serve, Some (note.End body.Init))
    same_serve k = (is k, tells k)

    thread_point : IsPoint img thread
    thread_point = Leads p thread fits.running.point (record {
      line = (instr.Serve, Some (note.End body.Init));
      stands = line.stands.1 ∙ ap (λ (l : Instr × Option Note). Some l) same_serve;
      address = refl;
      owner = ap (owner_after instr.Serve) (sym starting);
      inside = sym none;
    })

    fits_thread : RunsAtPoints img (core_serving c (suc c.processor.address)) thread qs
    fits_thread = record {
      running = record {
        point = thread_point;
        frame = fits.running.frame ∙ ap (frame_of img) starting;
        saves = tt;
      };
      stack = on_thread img p thread starting refl qs c.below fits.stack;
      address = ap suc fits.address;
      basepri = fits.basepri ∙ ap (λ s. base_inside s (base_under qs)) none;
      primask = refl;
      memory = fits.memory;
      caller = fits.caller;
      alarm = fits.alarm;
      stopped = fits.stopped;
    }

    pub ends_init : Steps img c p qs
    ends_init = record {
      core = core_serving c (suc c.processor.address);
      shown = Some (what.End body.Init);
      is = line_steps img checked c p qs fits line picked
          ∙ ap (λ (l : Instr × Option Note). settle (go_on img c l.1 (unchecked_effect l.0 c.time c.processor)))
          same_serve;
      point = thread;
      below = qs;
      fits = fits_thread;
      insides = ap (λ s. sections s ∷ insides_of qs) none;
      free = tt;
      nested = tt;
      returns = (ap (λ s. sections s) none, tt);
      no_trap = tt;
      started = λ before. thread_differs;
      ended = λ end. thread_differs;
      how = Served (record {
        none = picked;
        before = starting;
        behind = refl;
        empty = refl;
        below = refl;
        shows = refl;
      });
    }

  module _ (index : ℕ) (is : line.instr ≡ instr.Ret) (untold : line.told ≡ None) (handles : p.owner ≡ Handling index)
      (none : p.inside ≡ []) where
    same_return : ◌≡◌ {A = Instr × Option Note} (line.instr, line.told) (instr.Ret, None)
    same_return k = (is k, untold k)

    clear : c.processor.primask ≡ false
    clear = fits.primask ∙ ap (λ s. mask_inside s (is_starting p.owner)) none ∙ ap is_starting handles

    step_is : (x : Context) (below : List Context) → c.below ≡ x ∷ below
        → step img c ≡ (in_context c x below, Some (what.Ret x.irq))
    step_is x below others =
        line_steps img checked c p qs fits line picked
        ∙ ap (λ (l : Instr × Option Note). settle (go_on img c l.1 (unchecked_effect l.0 c.time c.processor)))
        same_return
        ∙ ap (λ o. settle (with_note img None (outcome_of_return c o)))
        (ap (λ k. interrupted_context k c.below) fits.caller ∙ ap (interrupted_context None) others)

    no_end : (irq : ℕ) → Some (what.Ret irq) ≡ Some (what.End body.Init) → ⊥
    no_end irq same = cc (same)

    back_on : (q : Point) (rest : List Point) (x : Context) (below : List Context) → qs ≡ q ∷ rest → c.below ≡ x ∷ below
        → IsStacked img p (q ∷ rest) (x ∷ below) → Steps img c p qs
    back_on q rest x below points others stacked =
        let on = stacked.0 in
        let mask : mask_inside q.inside (is_starting q.owner) ≡ false =
        unmasked img q.owner q.inside (omega (arith, on.above)) in
        let within = priority_within img q.owner q.inside in
        record {
          core = in_context c x below;
          shown = Some (what.Ret x.irq);
          is = step_is x below others;
          point = q;
          below = rest;
          fits = record {
            running = on.interrupted;
            stack = stacked.1;
            address = on.address;
            basepri = fits.basepri ∙ ap (λ s. base_inside s (base_under qs)) none ∙ ap base_under points;
            primask = clear ∙ sym mask;
            memory = fits.memory;
            caller = on.caller;
            alarm = fits.alarm;
            stopped = fits.stopped;
          };
          insides = ap insides_of points;
          free = tt;
          nested = tt;
          returns = (ap (λ s. sections s) none, tt);
          no_trap = tt;
          started = λ before starting.
              let zero : owner_value img q.owner ≡ 0 = ap (owner_value img) starting in
              absurd (omega (arith, on.above, within, zero));
          ended = λ end. absurd (no_end x.irq end);
          how = Back (record {
            none = picked;
            index = index;
            irq = x.irq;
            handles = handles;
            empty = none;
            back = points;
            shows = refl;
          });
        }

    pub returns : Steps img c p qs
    returns = by qs c.below refl refl fits.stack
      where
        by : (points : List Point) (below : List Context) → qs ≡ points → c.below ≡ below → IsStacked img p points below
            → Steps img c p qs
        by [] [] points others stacked = absurd (subst IsLowest handles stacked)
        by [] (x ∷ below) points others stacked = absurd stacked
        by (q ∷ rest) [] points others stacked = absurd stacked
        by (q ∷ rest) (x ∷ below) points others stacked = back_on q rest x below points others stacked

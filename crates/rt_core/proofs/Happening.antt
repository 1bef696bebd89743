-- The equations of a step and of events.
use Rattle.std.proofs.Common.{◌≡◌, List, [], ◌∷◌, ◌++◌, append_assoc, Bool, true, false, if◌then◌else◌, Option}
use Rattle.std.proofs.Common.{Some, None, option_map, slice_get, refl, sym, ap, ◌∙◌}
use Rattle.std.proofs.lemmas.Option.{none-some}
use Rattle.rt_ids.specs.Event.{Event}
use Rattle.rt_code.specs.Image.{Image}
use Rattle.rt_code.specs.declared.image.IrqRow.{IrqRow}
use Rattle.rt_code.specs.declared.instr.Instr.TheVariants as instr
use Rattle.rt_trace.specs.declared.item.What.{What}
use Rattle.rt_core.specs.Core.{Core}
use Rattle.rt_core.specs.Laws.{HappensByEvent, StepsByCause}
use Rattle.rt_core.specs.Outcome.{settle}
use Rattle.rt_core.specs.Priority.{pick}
use Rattle.rt_core.specs.Stepping.{run, attempt, step}
use Rattle.rt_core.specs.Trace.{happen, core_after, labels}

-- a step, by whether the core is stopped
abbrev pub step_by : Image → Core → Bool → Core × Option What
step_by img c stopped = if stopped then (c, None) else settle (attempt img c (pick img c))

pub step_is : (img : Image) (c : Core) → step img c ≡ step_by img c c.stopped
unfolding step
step_is img c = refl

pub happens_by_event : HappensByEvent
unfolding happen core_after labels
happens_by_event = record {
  arrive = λ img c irq. refl;
  tick = λ img c. refl;
  step = λ img c. refl;
  core_none = λ img c. refl;
  core_more = λ img c e events. refl;
  labels_none = λ img c. refl;
  labels_more = λ img c e events. refl;
}

pub steps_by_cause : StepsByCause
steps_by_cause = record {
  stopped = λ img c h. step_is img c ∙ ap (step_by img c) h;
  entry = λ img c row h picked. step_is img c ∙ ap (step_by img c) h ∙ ap (λ o. settle (attempt img c o)) picked;
  line = λ img c line h picked at.
      step_is img c ∙ ap (step_by img c) h ∙ ap (λ o. settle (attempt img c o)) picked
      ∙ ap (λ o. settle (run img c o)) at;
  none = λ img c h picked at.
      step_is img c ∙ ap (step_by img c) h ∙ ap (λ o. settle (attempt img c o)) picked
      ∙ ap (λ o. settle (run img c o)) at;
}

none_picked : (o : Option IrqRow) → option_map (λ row. row.number) o ≡ None → o ≡ None
none_picked None h = refl
none_picked (Some row) h = absurd (none-some row.number (sym h))

-- the step of a core that is not stopped
pub going_steps : (img : Image) (c : Core) → c.stopped ≡ false → step img c ≡ settle (attempt img c (pick img c))
going_steps img c h = step_is img c ∙ ap (step_by img c) h

-- the step of a core that goes on with an instruction
pub instruction_steps : (img : Image) (c : Core) → c.stopped ≡ false → option_map (λ row. row.number) (pick img c)
    ≡ None
    → step img c ≡ settle (run img c (slice_get img.code c.processor.address))
instruction_steps img c h none = step_is img c ∙ ap (step_by img c) h
    ∙ ap (λ o. settle (attempt img c o)) (none_picked (pick img c) none)

-- the step of a core that waits
pub waiting_steps : (img : Image) (c : Core) → slice_get img.code c.processor.address ≡ Some (instr.Wait, None)
    → option_map (λ row. row.number) (pick img c) ≡ None → step img c ≡ (c, None)
waiting_steps img c at none = by c.stopped refl
  where
    by : (stopped : Bool) → c.stopped ≡ stopped → step img c ≡ (c, None)
    by true h = steps_by_cause.stopped img c h
    by false h = instruction_steps img c h none ∙ ap (λ o. settle (run img c o)) at

-- the core after more events
pub core_after-append : (img : Image) (c : Core) (es fs : List Event) → core_after img c (es ++ fs)
    ≡ core_after img (core_after img c es) fs
unfolding core_after
core_after-append img c [] fs = refl
core_after-append img c (e ∷ es) fs = core_after-append img (happen img c e).0 es fs

-- the labels of more events
pub labels-append : (img : Image) (c : Core) (es fs : List Event) → labels img c (es ++ fs) ≡ labels img c es
    ++ labels img (core_after img c es) fs
unfolding labels core_after
labels-append img c [] fs = refl
labels-append img c (e ∷ es) fs =
    ap (λ ls. (happen img c e).1 ++ ls) (labels-append img (happen img c e).0 es fs)
    ∙ sym (append_assoc (happen img c e).1 (labels img (happen img c e).0 es)
    (labels img (core_after img (happen img c e).0 es) fs))

-- Where an interrupt is taken, the core fits again: its handler runs at its entry, on what it interrupted.
use Rattle.std.proofs.Common.{◌≡◌, ◌≢◌, ℕ, ◌<◌, ◌≤◌, min, nat_lt, Bool, true, false, if◌then◌else◌, List, ◌∷◌}
use Rattle.std.proofs.Common.{slice_index_or, Option, Some, None, refl, sym, ap, ◌∙◌, arith}
use Rattle.std.proofs.lemmas.Bool.{false≢true}
use Rattle.std.proofs.lemmas.Bool.Decides.{nat_tests}
use Rattle.std.proofs.lemmas.List.{length-replicate}
use Rattle.rt_lemmas.proofs.Bools.{and_parts}
use Rattle.rt_ids.specs.Choice.{IsIn}
use Rattle.rt_ids.specs.Lists.{then_from}
use Rattle.rt_code.specs.Image.{Image}
use Rattle.rt_code.specs.declared.image.Handler.{Handler}
use Rattle.rt_code.specs.declared.image.IrqRow.{IrqRow}
use Rattle.rt_code.specs.declared.processor.Trap.TheVariants as trap
use Rattle.rt_trace.specs.declared.item.What.TheVariants as what
use Rattle.rt_core.specs.Core.{Core, depth}
use Rattle.rt_core.specs.Outcome.{Trapped, Done, settle}
use Rattle.rt_core.specs.Priority.{running_value, base_value, mask_value, value_or_none, execution, can_preempt, pick}
use Rattle.rt_core.specs.Transfer.{core_after_entry, exception_entry}
use Rattle.rt_core.proofs.Happening.{steps_by_cause}
use Rattle.rt_core.proofs.Picking.{picked_row}
use Rattle.rt_points.specs.declared.point.Owner.TheVariants.{Starting, Handling}
use Rattle.rt_points.specs.declared.rule.Rule.TheVariants as rule
use Rattle.rt_points.specs.Checked.{IsChecked}
use Rattle.rt_points.specs.Leading.{Enters, handler_at, starts_at}
use Rattle.rt_points.specs.ExecutionPriority.{execution_priority}
use Rattle.rt_points.specs.Point.{Point}
use Rattle.rt_safe.specs.Inside.Moved.{Taken}
use Rattle.rt_safe.specs.Inside.RunsAtPoints.{is_starting, RunsAtPoints}
use Rattle.rt_safe.specs.Inside.Steps.{Steps}
use Rattle.rt_safe.proofs.Depth.{frame_is, room_above}
use Rattle.rt_safe.proofs.Execution.{execution_is}
use Rattle.rt_safe.proofs.PointPriorities.{unmasked}

pub handling_differs : (index : ℕ) → Handling index ≢ Starting
handling_differs index same = false≢true (ap is_starting same)

-- what can preempt is enabled, and above the execution priority
pub preempts : (c : Core) (row : IrqRow) → can_preempt c row ≡ true → value_or_none row.handler < execution c
preempts c row passes =
    let test = (and_parts (slice_index_or c.pending row.number false) (nat_lt (value_or_none row.handler) (execution c))
    passes).1 in grind (arith, nat_tests)

execution_small : (c : Core) → execution c ≤ 256
execution_small c = by c.processor.primask
  where
    by : (m : Bool) → min (running_value c.below) (min (base_value c.processor.basepri) (mask_value m)) ≤ 256
    by true = omega arith
    by false = omega arith

module _ (img : Image) (checked : IsChecked img) (c : Core) (p : Point) (qs : List Point)
    (fits : RunsAtPoints img c p qs) where
  entered_fits : (index irq : ℕ) (h : Handler) → handler_at img index ≡ Some h
      → h.value < execution_priority img p.owner p.inside
      → RunsAtPoints img (core_after_entry c irq h) (starts_at h.entry (Handling index)) (p ∷ qs)
  entered_fits index irq h is above = record {
    running = record {
      point = Enters index h is;
      frame = length-replicate h.frame 0 ∙ sym (frame_is img index h is);
      saves = tt;
    };
    stack = (
      record {
        index = index;
        handler = h;
        enabled = is;
        handles = refl;
        value = refl;
        above = above;
        address = fits.address;
        caller = fits.caller;
        interrupted = fits.running;
      },
      fits.stack,
    );
    address = refl;
    basepri = fits.basepri;
    primask = fits.primask ∙ unmasked img p.owner p.inside (omega (arith, above));
    memory = fits.memory;
    caller = refl;
    alarm = fits.alarm;
    stopped = fits.stopped;
  }

  pub takes : (row : IrqRow) → pick img c ≡ Some row → Steps img c p qs
  takes row picked = by row.handler refl
    where
      found : IsIn img.irqs row × (can_preempt c row ≡ true)
      found = picked_row img c row picked

      less : value_or_none row.handler < execution c
      less = preempts c row found.1

      by : (o : Option Handler) → row.handler ≡ o → Steps img c p qs
      by None is =
          let value : value_or_none row.handler ≡ 256 = ap value_or_none is in
          absurd (omega (arith, less, value, execution_small c))
      by (Some h) is =
          let value : value_or_none row.handler ≡ h.value = ap value_or_none is in
          let at : handler_at img found.0.0 ≡ Some h = ap (λ o. then_from o (λ r. r.handler)) found.0.1 ∙ is in
          let above : h.value < execution_priority img p.owner p.inside =
          omega (arith, less, value, execution_is img checked c p qs fits) in
          let room = room_above img (checked rule.Numbers).stack_enough c p qs fits found.0.0 h at above in
          let after : Core = core_after_entry c row.number h in
          record {
            core = after;
            shown = Some (what.Take row.number (depth img after));
            is = steps_by_cause.entry img c row fits.stopped picked
                ∙ ap (λ o. settle (exception_entry img c row.number o)) is
                ∙ ap (λ b. settle (if b then Done after (Some (what.Take row.number (depth img after)))
                else Trapped c trap.Stack)) room;
            point = starts_at h.entry (Handling found.0.0);
            below = p ∷ qs;
            fits = entered_fits found.0.0 row.number h at above;
            insides = refl;
            free = tt;
            nested = tt;
            returns = tt;
            no_trap = tt;
            started = λ before. handling_differs found.0.0;
            ended = λ is. handling_differs found.0.0;
            how = Taken (record {
              row = row;
              index = found.0.0;
              handler = h;
              depth = depth img after;
              picked = picked;
              at = found.0.1;
              enabled = is;
              above = above;
              point = refl;
              below = refl;
              shows = refl;
            });
          }

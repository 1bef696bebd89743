-- What the laws of native code ask of an image and of a chip: an image of `build` has it where it fits, and a chip too.
use Rattle.std.proofs.Common.{◌≡◌, ℕ, ◌+◌, ◌^◌, ◌<◌, ◌≤◌, inl, inr, List, [], ◌∷◌}
use Rattle.std.proofs.Common.{length}
use Rattle.std.proofs.Common.{Option, Some, None, IfSome, option_map, refl, sym, ap, subst, ◌∙◌, ⊎_elim, arith}
use Rattle.std.specs.List.{AllByRecursion}
use Rattle.std.proofs.lemmas.List.{length-map}
use Rattle.rt_lemmas.proofs.Lists.{find_has}
use Rattle.rt_lemmas.proofs.Membership.{all_weaker}
use Rattle.rt_ids.specs.declared.limits.TheConstants.{IRQ_NUMBERS}
use Rattle.rt_ids.proofs.Hardware.{hardware_falls, hardware_of_none}
use Rattle.rt_app.specs.Accepted.{IsAccepted}
use Rattle.rt_app.specs.Handlers.{Service, services}
use Rattle.rt_app.specs.Layout.{memory, row_of}
use Rattle.rt_app.specs.Tree.{App}
use Rattle.rt_app.specs.declared.app.IrqDecl.{IrqDecl}
use Rattle.rt_app.proofs.Sound.{accepted_are_sound}
use Rattle.rt_build.specs.Entries.{Entries, handler_row, irq_rows}
use Rattle.rt_build.specs.Image.{IsImageOf}
use Rattle.rt_code.specs.Image.{Image}
use Rattle.rt_code.specs.Runnable.{IsRunnable}
use Rattle.rt_code.specs.declared.image.IrqRow.{IrqRow}
use Rattle.rt_gen_body.proofs.Owning.{local_cell}
use Rattle.rt_laws.specs.Services.{service_at}
use Rattle.rt_native.specs.Fitting.{Fits}
use Rattle.rt_native.specs.Target.{Target}
use Rattle.rt_native.specs.declared.target.Input.{Input}
use Rattle.rt_native_laws.specs.FromReset.{IsMapped}
use Rattle.rt_native_laws.specs.Reading.{IsInput}
use Rattle.rt_native_laws.specs.Simulating.{IsFitFor, IsImageFor}
use Rattle.rt_priorities.specs.Setting.{CanBeSet}
use Rattle.rt_sim.proofs.Choosing.{IsServed, all_served}
use Rattle.rt_thumb.specs.Step.{Program}
use Rattle.rt_native_runs.specs.Running.{IsChip, IsWired, region_end}

-- memory of a chip has room for what native code touches
pub mapped : (img : Image) (target : Target) (p : Program) → IsChip target → Fits img target → IsMapped img target p
mapped img target p chip fits = record {
  laid = record {
    aligned = omega (arith, chip.ram.0);
    time = refl;
    in_memory = omega (arith, fits.1, chip.ram_low);
    port_aligned = chip.port_aligned;
    port_is_word = chip.port_is_word;
    port_apart =
        ⊎_elim (λ (x : target.port < target.ram.address). inl (omega (arith, x)))
        (λ (x : region_end target.ram ≤ target.port). inr (omega (arith, x, fits.1))) chip.port_apart;
    port_is_no_request = λ e.
        ⊎_elim (λ (x : target.port < 0xE000E000). omega (arith, x, e)) (λ (x : 0xE000F000 ≤ target.port).
        omega (arith, x, e)) chip.port_is_no_register;
  };
  apart =
      ⊎_elim (λ (x : region_end target.flash ≤ target.ram.address). inl (omega (arith, x, fits.2)))
      (λ (x : region_end target.ram ≤ target.flash.address). inr (omega (arith, x, fits.1))) chip.apart;
  port = chip.port_is_no_register;
}

-- the rows of an image have the numbers of the declared interrupts
numbers_small : (app : App) (at : Entries) (i : ℕ) (ds : List IrqDecl)
    → AllByRecursion (λ d. d.number < IRQ_NUMBERS) ds
    → AllByRecursion (λ row. row.number < IRQ_NUMBERS) (irq_rows app at i ds)
numbers_small app at i [] all = tt
numbers_small app at i (d ∷ ds) all = (all.0, numbers_small app at (i + 1) ds all.1)

module _ (app : App) (img : Image) (accepted : IsAccepted app) (is_image : IsImageOf app img) where
  -- a handler has a priority value of eight bits
  value_small : (row : IrqRow) → IsServed app is_image.at accepted.limits.least_bits accepted.limits.most_bits
      (accepted_are_sound app accepted) row → IfSome row.handler (λ h. h.value < 2 ^ 8)
  value_small row served =
      subst (λ o. IfSome o (λ h. h.value < 2 ^ 8)) (sym served) (by (service_at app row.number) refl)
    where
      by : (o : Option Service) → service_at app row.number ≡ o
          → IfSome (option_map (handler_row app is_image.at) o) (λ h. h.value < 2 ^ 8)
      by None is = tt
      by (Some v) is =
          let has = find_has _ _ (services app) v (accepted_are_sound app accepted).served is in
          let falls = hardware_falls app.bits 0 v.priority accepted.limits.least_bits accepted.limits.most_bits
          (omega (arith, has.1)) has.2 in
          let top = hardware_of_none app.bits accepted.limits.least_bits accepted.limits.most_bits in
          omega (arith, falls, top)

  -- the interrupts of an image can be set
  pub can_be_set : IsRunnable img → CanBeSet img.irqs
  can_be_set runnable = record {
    numbers = subst (AllByRecursion (λ row. row.number < IRQ_NUMBERS)) (sym is_image.tables.irqs)
        (numbers_small app is_image.at 0 app.irqs (accepted_are_sound app accepted).numbers);
    values = subst (AllByRecursion (λ row. IfSome row.handler (λ h. h.value < 2 ^ 8))) (sym is_image.tables.irqs)
        (all_weaker (IsServed app is_image.at accepted.limits.least_bits accepted.limits.most_bits
        (accepted_are_sound app accepted)) (λ (row : IrqRow). IfSome row.handler (λ h. h.value < 2 ^ 8)) value_small
        (irq_rows app is_image.at 0 app.irqs)
        (all_served app is_image.at accepted.limits.least_bits accepted.limits.most_bits
        (accepted_are_sound app accepted)));
    apart = runnable.rows.numbers;
  }

  -- an input's cell is one of the image's
  input_there : (input : Input) → IsWired app input → IsInput (length img.cells) input
  input_there input wired = record {
    cell =
        let there = (local_cell app wired.writes.writes.local wired.writes.may_write.declared).there in
        let cells : length img.cells ≡ length (memory app) =
        ap length is_image.tables.cells ∙ length-map (memory app) row_of in
        let at = wired.writes.cell in
        omega (arith, there, cells, at);
    aligned = wired.aligned;
    address = wired.is_word;
  }

  -- of an image that fits a chip a program can be made, where no function of C is called
  pub fit_for : (target : Target) (p : Program) → IsRunnable img → IsChip target → Fits img target
      → AllByRecursion (IsWired app) target.inputs → IsFitFor img target p
  fit_for target p runnable chip fits wired = record {
    runnable = runnable;
    set = can_be_set runnable;
    fits = fits;
    flash = chip.flash;
    ram = chip.ram;
    above_zero = chip.above_zero;
    inputs = all_weaker (IsWired app) (IsInput (length img.cells)) input_there target.inputs wired;
  }

  pub image_for : (target : Target) (p : Program) → IsRunnable img → IsChip target → Fits img target
      → AllByRecursion (IsWired app) target.inputs → target.calls ≡ [] → IsImageFor img target p
  image_for target p runnable chip fits wired no_functions =
      record { fit = fit_for target p runnable chip fits wired; no_functions = no_functions }

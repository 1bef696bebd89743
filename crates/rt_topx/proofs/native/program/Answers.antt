-- What is built is good, and its memories are regions.
use Rattle.std.proofs.Common.{◌≡◌, sym, subst}
use Rattle.rt_app.specs.View.{app_of}
use Rattle.rt_native.specs.File.{file}
use Rattle.rt_native.specs.Fitting.{IsRegion, Fits, IsUnfit}
use Rattle.rt_native.specs.Target.{Target}
use Rattle.rt_native_runs.specs.FromFile.{FileRuns}
use Rattle.rt_native_runs.proofs.FromFile.{files_run_as_images}
use Rattle.rt_native_runs.proofs.Running.{linked_programs_run_as_images}
use Rattle.rt_target.specs.Chip.{is_flash, is_ram}
use Rattle.rt_topx.specs.Target.{target_of}
use Rattle.rt_topx.proofs.Chips.{is_chip}
use Rattle.rt_topx.proofs.Wired.{inputs_are_wired}
use Rattle.rt_topx.proofs.Making.{good_of, misfits_as}
use Rattle.rt_topx.proofs.Regions.{is_low, is_region}
use Rattle.rt_topx.proofs.native.program.Goals as goal

pub native-requires-clause-flash : goal.native-requires-clause-flash
native-requires-clause-flash c =
    subst (λ (t : Target). IsRegion t.flash) (sym c.in_ok-target.ensures)
    (is_region (app_of c.args.app.now) c.args.setup.now.facts c.requires.facts is_flash)

pub native-requires-clause-ram : goal.native-requires-clause-ram
native-requires-clause-ram c =
    subst (λ (t : Target). IsRegion t.ram) (sym c.in_ok-target.ensures)
    (is_region (app_of c.args.app.now) c.args.setup.now.facts c.requires.facts is_ram)

pub returns-in-Ok-clause-bytes : goal.returns-in-Ok-clause-bytes
returns-in-Ok-clause-bytes c =
    let image = c.in_ok-image.image in
    let is = c.in_ok-image.ensures in
    let of = c.in_ok-target.ensures in
    let app = app_of c.args.app.now in
    let setup = c.args.setup.now in
    let fits = subst (Fits image) of c.in-Ok.ensures.fits in
    let is_file = subst (λ (t : Target). c.in-Ok.bytes.items ≡ file image t) of c.in-Ok.ensures.bytes in
    let chip = is_chip app setup c.requires.facts c.requires.whole in
    let wired = inputs_are_wired app setup.board c.requires.inputs.each setup.facts c.requires.facts in (
      image,
      good_of app image c.requires.accepted is.image is.built is.runnable is.lines,
      (fits, is_file),
      record {
        executable = subst (FileRuns app image (target_of app setup)) (sym is_file)
            (files_run_as_images app image (target_of app setup) c.requires.accepted is.image is.built is.runnable chip
            (is_low app setup.facts c.requires.facts is_flash) fits wired);
        object = linked_programs_run_as_images app image (target_of app setup) c.requires.accepted is.image is.built
            is.runnable chip fits wired;
      },
    )

pub returns-clause-unfit : goal.returns-clause-unfit
returns-clause-unfit c =
    let app = app_of c.args.app.now in
    let image = c.in_ok-image.image in
    let is = c.in_ok-image.ensures in
    let unfit =
    subst (λ (t : Target). IsUnfit image t c.in-Err.unfit) c.in_ok-target.ensures c.in-Err.ensures.unfit in (
      image,
      good_of app image c.requires.accepted is.image is.built is.runnable is.lines,
      misfits_as app image c.args.setup.now c.in-Err.unfit unfit c.in_ok-cause_of-in-Err.field-0
          c.in_ok-cause_of-in-Err.ensures,
    )

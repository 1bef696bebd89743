-- Programs do what images do, from reset on.
use Rattle.std.proofs.Common.{◌≡◌, true, List, []}
use Rattle.std.proofs.Common.{subst}
use Rattle.std.specs.List.{AllByRecursion}
use Rattle.rt_lemmas.proofs.Membership.{all_append, all_weaker}
use Rattle.rt_app.specs.Accepted.{IsAccepted}
use Rattle.rt_app.specs.Tree.{App}
use Rattle.rt_build.specs.Built.{IsBuilt}
use Rattle.rt_build.specs.Image.{IsImageOf}
use Rattle.rt_code.specs.Image.{Image}
use Rattle.rt_code.specs.Runnable.{IsRunnable}
use Rattle.rt_laws.specs.Properties.{KeepsLaws}
use Rattle.rt_laws.proofs.AllMoments.{runs_beside_keep_messages}
use Rattle.rt_laws.proofs.Keeping.{runs_beside_keep_laws}
use Rattle.rt_native.specs.Fitting.{Fits}
use Rattle.rt_native.specs.Target.{Target}
use Rattle.rt_native.specs.declared.target.Input.{Input}
use Rattle.rt_native_laws.specs.FromReset.{IsAtReset, SimulatesFromReset, StandsAtReset}
use Rattle.rt_native_laws.specs.Linked.{LiesLinked}
use Rattle.rt_native_laws.specs.Moments.{AllCanHappen, Happening, at_reset}
use Rattle.rt_native_laws.specs.WithFunctions.{Functions, KeepToTheirs, inputs_beside}
use Rattle.rt_native_laws.proofs.Early.{linked_simulates_from_reset, native_simulates_from_reset}
use Rattle.rt_native_laws.proofs.Throughout.{every_list_is_simulated}
use Rattle.rt_thumb.specs.Machine.{Machine}
use Rattle.rt_thumb.specs.Step.{Program}
use Rattle.rt_native_runs.specs.Laws.{WritesLocal, fits}
use Rattle.rt_native_runs.specs.Lying.{LiesWell}
use Rattle.rt_native_runs.specs.Running.{IsBakersRun, IsChip, IsWired, LinkedProgramsRunAsImages}
use Rattle.rt_native_runs.specs.Running.{ProgramsRunAsImages, RunsBesideFunctions, RunsFromReset}
use Rattle.rt_native_runs.proofs.Behaving.{behaves, reaches}
use Rattle.rt_native_runs.proofs.Chips.{fit_for, image_for, mapped}
use Rattle.rt_native_runs.proofs.Lies.{images_lie_well}

module _ (app : App) (img : Image) (target : Target) (p : Program) (accepted : IsAccepted app)
    (is_image : IsImageOf app img) (built : IsBuilt app img) (runnable : IsRunnable img) (chip : IsChip target)
    (room : Fits img target) (wired : AllByRecursion (IsWired app) target.inputs) where
  lies : LiesWell img
  lies = images_lie_well app img accepted built

  given : AllByRecursion (WritesLocal app) target.inputs
  given = all_weaker (IsWired app) (WritesLocal app) (λ input is. is.writes) target.inputs wired

  -- what happens to the image is a run of Baker's machine
  run_of : (inputs : List Input) → AllByRecursion (WritesLocal app) inputs → (happened : List Happening)
      → AllCanHappen img inputs (at_reset img) happened → fits app img happened ≡ true
      → IsBakersRun app img target p happened
  run_of inputs write happened can fit =
      let ends = reaches app img inputs accepted is_image write lies happened can fit in
      record {
        moves = ends.moves;
        shows = ends.shows;
        runs = ends.runs;
        words = ends.words;
        laws = subst (KeepsLaws app) ends.shows (runs_beside_keep_laws app accepted ends.moves ends.runs);
        messages = runs_beside_keep_messages app accepted ends.moves ends.runs;
        stack_within = ends.within;
      }

  -- where no function is called
  module _ (no_functions : target.calls ≡ []) (m : Machine) (start : IsAtReset img target p m) where
    simulates : SimulatesFromReset img target p (fits app img) m
    simulates =
        native_simulates_from_reset img target p (fits app img) m
        (image_for app img accepted is_image target p runnable chip room wired no_functions)
        (mapped img target p chip room)
        (behaves app img target.inputs accepted is_image given lies)
        start

    runs_from_reset : RunsFromReset app img target p m
    runs_from_reset = record {
      simulated = λ events may.
          every_list_is_simulated img target p (fits app img) m simulates events may.early may.numbered may.changes
          may.few;
      runs = run_of target.inputs given;
    }

  -- beside functions
  module _ (functions : Functions) (bring : AllByRecursion (WritesLocal app) functions.inputs)
      (keep : KeepToTheirs img target functions p) (m : Machine) (linked : LiesLinked img target p m)
      (start : StandsAtReset img target p m) where
    all_given : AllByRecursion (WritesLocal app) (inputs_beside target functions)
    all_given = all_append (WritesLocal app) target.inputs functions.inputs given bring

    runs_beside : RunsBesideFunctions app img target functions p m
    runs_beside = record {
      simulated = linked_simulates_from_reset img target functions p (fits app img) m
          (fit_for app img accepted is_image target p runnable chip room wired)
          (mapped img target p chip room)
          (behaves app img (inputs_beside target functions) accepted is_image all_given lies) linked start keep;
      runs = run_of (inputs_beside target functions) all_given;
    }

pub programs_run_as_images : ProgramsRunAsImages
programs_run_as_images app img target p accepted is_image built runnable chip room wired no_functions m start =
    runs_from_reset app img target p accepted is_image built runnable chip room wired no_functions m start

pub linked_programs_run_as_images : LinkedProgramsRunAsImages
linked_programs_run_as_images app img target accepted is_image built runnable chip room wired functions p bring keep m
    linked start =
    runs_beside app img target p accepted is_image built runnable chip room wired functions bring keep m linked start

-- What a chip does whose memory holds the file of an application's image, from reset on: what the image does, and so
-- what Baker's machine does with the application (Stack-Based Scheduling of Realtime Processes, 1991).
use Rattle.std.specs.Prelude.{◌≡◌, ◌≤◌, ℕ, List, []}
use Rattle.std.specs.List.{AllByRecursion}
use Rattle.rt_app.specs.Accepted.{IsAccepted}
use Rattle.rt_app.specs.Tree.{App}
use Rattle.rt_build.specs.Built.{IsBuilt}
use Rattle.rt_build.specs.Image.{IsImageOf}
use Rattle.rt_code.specs.Image.{Image}
use Rattle.rt_code.specs.Runnable.{IsRunnable}
use Rattle.rt_native.specs.File.{file}
use Rattle.rt_native.specs.Fitting.{Fits}
use Rattle.rt_native.specs.Target.{Target}
use Rattle.rt_native_laws.specs.Filed.{HoldsFile, IsFreshFromReset, IsWhatFlashHas}
use Rattle.rt_native_runs.specs.Running.{IsChip, IsWired, RunsFromReset, region_end}
use Rattle.rt_thumb.specs.Machine.{Machine}
use Rattle.rt_thumb.specs.Step.{Program}

module _ (app : App) (img : Image) (target : Target) where
  -- the program that flash has does, from reset on, what the image does
  pub record RunsFromFlash (m : Machine) : Type 0 where
    pub program : Program
    pub is : IsWhatFlashHas target program m
    pub runs : RunsFromReset app img target program m

  -- It does so on each processor whose memory holds a file as reset ends, whatever else memory holds. It is not said of
  -- programs that call functions of C, which are made elsewhere.
  abbrev pub FileRuns : List ℕ → Type 0
  FileRuns bytes =
      target.calls ≡ [] → (m : Machine) → HoldsFile bytes m → IsFreshFromReset target m → RunsFromFlash m

-- The file of the image that `build` makes of an accepted application does so, on each chip that the image fits, whose
-- flash lies below the addresses of the system, beside devices that write local resources of its hardware tasks.
abbrev pub FilesRunAsImages : Type 0
FilesRunAsImages =
    (app : App) (img : Image) (target : Target) → IsAccepted app → IsImageOf app img → IsBuilt app img
    → IsRunnable img → IsChip target → region_end target.flash ≤ 0xE0000000 → Fits img target
    → AllByRecursion (IsWired app) target.inputs → FileRuns app img target (file img target)

-- There is a processor whose memory holds an image's file, as reset leaves it: what is said of each such processor is
-- said of some.
use Rattle.std.specs.Prelude.{◌≡◌, ◌+◌, ◌^◌, ◌<◌, ◌≤◌, []}
use Rattle.std.specs.List.{AllByRecursion}
use Rattle.rt_code.specs.Image.{Image}
use Rattle.rt_native.specs.File.{file}
use Rattle.rt_native.specs.Fitting.{Fits, IsRegion}
use Rattle.rt_native.specs.Target.{Target}
use Rattle.rt_native_laws.specs.Filed.{HoldsFile, IsFreshFromReset}
use Rattle.rt_thumb.specs.Machine.{Machine}

-- such a processor
pub record HasFileAtReset (img : Image) (target : Target) : Type 0 where
  pub machine : Machine
  pub holds : HoldsFile (file img target) machine
  pub fresh : IsFreshFromReset target machine

-- for each image that fits a chip whose flash lies below the system's part of the address space
abbrev pub FilesCanBeHeld : Type 0
FilesCanBeHeld =
    (img : Image) (target : Target) → IsRegion target.flash → target.flash.address + target.flash.size ≤ 0xE0000000
    → target.calls ≡ [] → Fits img target → AllByRecursion (λ byte. byte < 2 ^ 8) (file img target)
    → HasFileAtReset img target

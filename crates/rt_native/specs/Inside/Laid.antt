-- Where a program lies, in one record, and why it may have no place there.
use Rattle.std.specs.Prelude.{◌≡◌, ◌≢◌, ℕ, List, ⊤}
use Rattle.rt_code.specs.Image.{Image}
use Rattle.rt_native.specs.File.{FitsFile}
use Rattle.rt_native.specs.Fitting.{FitsFlash, Reaches}
use Rattle.rt_native.specs.Layout as layout
use Rattle.rt_native.specs.Layout.{line_count}
use Rattle.rt_native.specs.Target.{Target}
use Rattle.rt_native.specs.declared.outside.Outside.{Outside}
use Rattle.rt_native.specs.declared.target.Unfit.{Unfit}
use Rattle.rt_native.specs.declared.target.Unfit.TheVariants as unfit

pub record Laid : Type 0 where
  pub outside : Outside
  pub stack_room : ℕ
  pub lines : ℕ
  pub fault : ℕ
  pub tick : ℕ
  pub stubs : List ℕ
  pub reset : ℕ
  pub places : List ℕ
  pub end : ℕ
  pub load : ℕ

abbrev pub laid_out : Image → Target → Laid
laid_out img target = record {
  outside = layout.outside img target;
  stack_room = layout.stack_room img target;
  lines = line_count img.irqs;
  fault = layout.fault_at img target;
  tick = layout.tick_at img target;
  stubs = layout.stub_places img target;
  reset = layout.reset_at img target;
  places = layout.places img target;
  end = layout.code_end img target;
  load = layout.load_at img target;
}

-- a refusal behind those of lines and of RAM, before that of branches: of the size in flash, or for want of memory
abbrev pub IsTooLong : Image → Target → Unfit → Type 0
IsTooLong img target why = why ≢ unfit.NoMemory → (why ≡ unfit.Flash) × ¬ FitsFlash img target

-- a refusal behind that of flash: of a branch, of the file, or for want of memory
abbrev pub IsUnwritten : Image → Target → Unfit → Type 0
IsUnwritten img target unfit.NoMemory = ⊤
IsUnwritten img target unfit.Reach = ¬ Reaches img target
IsUnwritten img target unfit.File = Reaches img target × ¬ FitsFile img target
IsUnwritten img target why = ⊥

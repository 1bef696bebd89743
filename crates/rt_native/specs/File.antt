-- The file of an image: its executable, or where functions of C are called its object. That the two have one form of
-- target is this project's own.
use Rattle.std.specs.Prelude.{◌≡◌, ◌≢◌, ◌<◌, ◌^◌, ◌==◌, ℕ, List, length, if◌then◌else◌}
use Rattle.rt_code.specs.Image.{Image}
use Rattle.rt_elf.specs.File.{elf_of}
use Rattle.rt_elf.specs.Linking.{IsLinkable, object_of}
use Rattle.rt_elf.specs.Offsets.{file_size}
use Rattle.rt_native.specs.Object.{object}
use Rattle.rt_native.specs.Symbols.{executable}
use Rattle.rt_native.specs.Target.{Target}

module _ (img : Image) (target : Target) where
  -- the bytes of the file: an executable, and an object to be linked where handlers call functions from elsewhere
  abbrev pub file : List ℕ
  file =
      if length target.calls == 0 then elf_of (executable img target) else object_of (object img target)

  -- the offsets of the file are words, and an object has few enough symbols
  abbrev pub FitsFile : Type 0
  FitsFile = (length target.calls ≡ 0 → file_size (executable img target) < 2 ^ 32)
      × (length target.calls ≢ 0 → IsLinkable (object img target))

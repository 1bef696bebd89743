-- How long a listing may be, in numbers, as docs/LANGUAGE.md has it. Everything else names the constant.
use Rattle.std.specs.Prelude.{◌≡◌}
use Rattle.rt_load.specs.declared.refusal.TheConstants.{IMAGE_BYTES}

-- bytes
pub record TellLength : Type 0 where
  pub image_bytes : IMAGE_BYTES ≡ 16777216

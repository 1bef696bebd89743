-- What a checked image may have, in numbers, as docs/VERIFY.md and docs/MACHINE.md have them. Everything else names the
-- constants.
use Rattle.std.specs.Prelude.{◌≡◌}
use Rattle.rt_points.specs.declared.rule.TheConstants.{MOST_OPEN, STACK_BYTES}

-- open sections, and bytes of the stack region
pub record TellBounds : Type 0 where
  pub open_sections : MOST_OPEN ≡ 16
  pub stack_bytes : STACK_BYTES ≡ 1048576

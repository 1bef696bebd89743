-- How far response times are looked for, in numbers, as docs/TIMES.md and docs/LANGUAGE.md have it. Everything else
-- names the constant.
use Rattle.std.specs.Prelude.{◌≡◌}
use Rattle.rt_rta.specs.declared.response.TheConstants.{MOST_STEPS}

-- core steps
pub record TellSteps : Type 0 where
  pub most : MOST_STEPS ≡ 1000000

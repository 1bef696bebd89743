-- How many pending words there are, in numbers, as docs/LIVE.md has it. Everything else names the constant.
use Rattle.std.specs.Prelude.{◌*◌, ◌≡◌, ◌≤◌}
use Rattle.rt_ids.specs.declared.limits.TheConstants.{IRQ_NUMBERS}
use Rattle.rt_words.specs.declared.row.TheConstants.{CORE_WORDS}

-- words of a core, and that their bits are enough for every interrupt number
pub record TellWords : Type 0 where
  pub words : CORE_WORDS ≡ 16
  pub enough : IRQ_NUMBERS ≤ 32 * CORE_WORDS

-- The limits that depend on a number, on how many things come before, or on the nesting of a block.
use Rattle.std.specs.Prelude.{ℕ, ◌-◌, not, ◌&&◌, nat_lt, nat_le, Option}
use Rattle.rt_ids.specs.declared.limit.Limit.{Limit}
use Rattle.rt_ids.specs.declared.limit.Limit.TheVariants as limit
use Rattle.rt_ids.specs.declared.limits.TheConstants.{NESTING, STATEMENTS, TURNS}
use Rattle.rt_grammar.specs.Tokens.{limit_if}

-- the limit on statements, at one after so many others
abbrev pub statement_limit : ℕ → Option Limit
statement_limit before = limit_if (nat_le STATEMENTS before) limit.Statements

-- the limit on nesting, at a block of this nesting
abbrev pub nesting_limit : ℕ → Option Limit
nesting_limit nesting = limit_if (nat_lt NESTING nesting) limit.Nesting

-- the limit on turns, at the second number
abbrev pub turn_limit : ℕ → ℕ → Option Limit
turn_limit first last = limit_if (nat_lt TURNS (last - first)) limit.Turns

-- the limit on a number, which has to be from the least to the greatest
abbrev pub within : ℕ → ℕ → Limit → ℕ → Option Limit
within least greatest what n = limit_if (not (nat_le least n && nat_le n greatest)) what

-- the limit on a number of things, at one after so many others
abbrev pub at_most : ℕ → Limit → ℕ → Option Limit
at_most most what before = limit_if (nat_le most before) what

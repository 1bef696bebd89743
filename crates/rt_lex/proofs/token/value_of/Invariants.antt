use Rattle.std.proofs.Common.{◌≡◌, ◌<◌, ◌^◌, drop}
use Rattle.rt_lex.specs.Number.{digits_value}
use Rattle.rt_lex.proofs.Values.{value_from}
use Rattle.rt_lex.proofs.token.value_of.Given as goal

-- the value so far is of 32 bits, and goes on to that of all digits
abbrev pub invariant-loop-digit : goal.invariant-loop-digit
invariant-loop-digit l = record {
  fits : l.value < 2 ^ 32;
  goes_on : value_from l.base l.value (drop l.digit-index l.digits) ≡ digits_value l.base l.digits;
}

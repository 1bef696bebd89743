use Rattle.std.proofs.Common.{rules, ◌≡◌, ◌<◌, ◌^◌, true, Ok, length, arith}
use Rattle.std.specs.List.{list_all}
use Rattle.std.specs.Str.Parse.{digits_value}
use Rattle.std.proofs.lemmas.Str.Parse.{IsNumeralModel, numerals_by_value, parse_gives}
use Rattle.rt_ids.specs.Byte.{is_digit}
use Rattle.rt_top.proofs.number.number_in.Goals as goal

own : IsNumeralModel (λ ds. list_all is_digit ds ≡ true) (digits_value 10)
own = numerals_by_value (λ ds. list_all is_digit ds ≡ true) (search rules)

pub returns-in_default-3-clause-none : goal.returns-in_default-3-clause-none
returns-in_default-3-clause-none c n is =
    let word = c.args.word.now in
    let small : digits_value 10 word < 2 ^ 64 = omega (arith, is.value) in
    let some : 0 < length word = omega (arith, is.some) in
    let gives : c.parse.result ≡ Ok (digits_value 10 word) =
    parse_gives own 64 word c.parse.result c.parse.ensures.value.0 is.digits some small in
    absurd cc

use Rattle.std.proofs.Common.{ℕ, ◌≤◌, [], refl, arith}
use Rattle.std.proofs.lemmas.List.{take-replicate}
use Rattle.rt_words.specs.Inside.Steps.{newcomer}
use Rattle.rt_words.proofs.Opening.{opens}
use Rattle.rt_words.proofs.Tallies.{new_sound}
use Rattle.rt_words.proofs.words.Words.make.Goals as goal

pub of_words-requires : goal.of_words-requires
of_words-requires c =
    let n : ℕ = c.from.result in
    let few : n ≤ 32 = omega (arith, c.from.ensures, c.requires.most) in
    let zero : ℕ = 0 in (
      [],
      newcomer c.args.may,
      opens c.args.may _ n (take-replicate n 32 zero few) few
          (λ bit h. omega (arith, c.requires.covered bit h, c.from.ensures)),
    )

pub invariant_of-line : goal.invariant_of-line
invariant_of-line c =
    let e = c.in_ok-table.ensures in
    new_sound c.in_ok-table.seat.id c.in_ok-table.seat.me (newcomer c.args.may) 0 c.args.there _ e.4
    (λ f. e.3) refl (omega arith) c.requires.far c.none.ensures.raised c.none.ensures.merged
    c.none.ensures.latched

use Rattle.std.proofs.Common.{ℕ, Contains, length, refl, sym, ap, ◌∙◌, subst, arith}
use Rattle.rt_words.specs.Account.{IsTally}
use Rattle.rt_words.specs.Inside.Seats.{Seat}
use Rattle.rt_words.specs.Inside.Steps.{view_after_join}
use Rattle.rt_words.specs.Lines.{Row, Line, numbers}
use Rattle.rt_words.proofs.Lists.{in_head}
use Rattle.rt_words.proofs.Making.{joins, looks}
use Rattle.rt_words.proofs.Tallies.{after_still}
use Rattle.rt_words.proofs.line.Line.gather.Goals as goal

pub join_seat-requires : goal.join_seat-requires
join_seat-requires c =
    let some = c.words.invariant.some in
    let first = c.self.invariant.seat (ap (λ (l : Line). l.number) c.self.view_is ∙ c.requires.first) in (
      ap (λ (l : Line). l.words.table) c.self.view_is ∙ ap (λ (r : Row). r.table) c.requires.words
          ∙ sym (ap (λ (r : Row). r.table) c.words.view_is),
      ap (λ (l : Line). l.words.table) c.line.view_is ∙ ap (λ (r : Row). r.table) c.requires.line
          ∙ sym (ap (λ (r : Row). r.table) c.words.view_is),
      c.line.invariant.slots,
      omega arith,
      joins c.words.inside.table.shared.key c.self.inside.seat.id c.self.inside.seat.me.0 c.line.inside.seat.id
          c.line.inside.seat.me.0 first
          (λ e. c.requires.other (sym (ap (λ (l : Line). l.number) c.line.view_is) ∙ e)),
    )

pub load-requires : goal.load-requires
load-requires c =
    let j = c.join_seat.ensures in
    let some = c.words.invariant.some in
    let first = c.self.invariant.seat (ap (λ (l : Line). l.number) c.self.view_is ∙ c.requires.first) in (
      j.0 ∙ ap (λ (l : Line). l.words.table) c.self.view_is ∙ ap (λ (r : Row). r.table) c.requires.words
          ∙ sym (ap (λ (r : Row). r.table) c.words.view_is),
      omega arith,
      looks c.words.inside.table.shared.key c.words.inside.table.shared.table_id.slots c.join_seat.new.seat.id
          c.join_seat.new.seat.me (j.1 ∙ first),
    )

pub invariant_of-self : goal.invariant_of-self
invariant_of-self c =
    let j = c.join_seat.ensures in
    let l = c.load.ensures in
    let me = c.self.inside.seat.me in
    after_still c.self.inside.seat.id _ me _ c.self.inside.here c.self.inside.there c.self.inside.tally c.self.invariant
    (l.1 ∙ j.1) (record (view_after_join me.0 c.line.inside.seat.me.0) { since = length me.0.calls; seen = l.2.0 })
    (l.2.1 ∙ ap (λ (m : Seat). (record m.0 { since = length m.0.calls; seen = l.2.0 }, m.1)) j.2) refl refl

pub returns-clause-tally : goal.returns-clause-tally
returns-clause-tally c =
    subst (λ (l : Line). IsTally l.here l.there l.calls c.line.inside.tally) c.line.view_is c.line.invariant.counted

pub returns-clause-made : goal.returns-clause-made
returns-clause-made c =
    let me = c.self.inside.seat.me in
    let number : ℕ = c.line.inside.seat.me.0.line in
    let known =
    subst (λ (m : Seat). Contains (numbers m.0.gathered) number → Contains m.0.made number) c.join_seat.ensures.2
    (c.load.ensures.2.4 number) in
    let here = known (in_head number (numbers me.0.gathered)) in
    subst (λ (n : ℕ). Contains c.args.self.now.made n) (ap (λ (l : Line). l.number) c.line.view_is)
    (subst (λ (l : Line). Contains l.made number) c.self.view_is here)

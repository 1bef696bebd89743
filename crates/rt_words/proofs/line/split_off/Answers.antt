use Rattle.std.proofs.Common.{◌≢◌, ℕ, sym, ap, ◌∙◌, subst, Contains, arith}
use Rattle.rt_words.specs.Lines.{Row}
use Rattle.rt_words.proofs.Making.{splits}
use Rattle.rt_words.proofs.line.split_off.Goals as goal

pub split_seat-requires : goal.split_seat-requires
split_seat-requires g c =
    let n = c.requires.number in
    let seat = c.args.seat.now in
    let some = c.words.invariant.some in (
      c.requires.table ∙ sym (ap (λ (r : Row). r.table) c.words.view_is),
      omega arith,
      splits c.words.inside.table.shared.key seat.id g.N.Numbered.number seat.me.0 c.requires.first
          (subst (λ (m : ℕ). m ≢ 255) (sym n) c.requires.other)
          (subst (λ (m : ℕ). ¬ Contains seat.me.0.made m) (sym n) c.requires.new),
    )

use Rattle.std.proofs.Common.{◌≡◌, sym, ap, ◌∙◌, arith}
use Rattle.rt_words.specs.Lines.{Row}
use Rattle.rt_words.specs.Inside.Seats.{Seat}
use Rattle.rt_words.proofs.Latching.{latches, glances}
use Rattle.rt_words.proofs.line.latch_word.Goals as goal

pub load-glance-requires : goal.load-glance-requires
load-glance-requires c =
    let few : c.args.words.now.table.words ≡ c.words.inside.table.shared.table_id.words =
    ap (λ (r : Row). r.table.words) (sym c.words.view_is) in (
      c.requires.table ∙ sym (ap (λ (r : Row). r.table) c.words.view_is),
      omega (arith, few, c.requires.word),
      glances c.words.inside.table.shared.key c.words.inside.table.shared.table_id.slots c.args.seat.now.id c.args.word
          c.args.seat.now.me c.requires.live,
    )

pub fetch_and-requires : goal.fetch_and-requires
fetch_and-requires c =
    let few : c.args.words.now.table.words ≡ c.words.inside.table.shared.table_id.words =
    ap (λ (r : Row). r.table.words) (sym c.words.view_is) in
    let l = c.load-glance.ensures in
    let same = l.2.1 c.if-glance-eq0.false in (
      l.0 ∙ c.requires.table ∙ sym (ap (λ (r : Row). r.table) c.words.view_is),
      omega (arith, few, c.requires.word),
      latches c.words.inside.table.shared.key c.words.inside.table.shared.table_id.slots c.load-glance.new.seat.id
          c.args.word c.load-glance.new.seat.me
          (λ e. l.1 ∙ c.requires.live (sym (ap (λ (m : Seat). m.0.line) same) ∙ e)),
    )

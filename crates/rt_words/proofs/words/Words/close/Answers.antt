use Rattle.std.proofs.Common.{sym, ap, ◌∙◌, subst, arith}
use Rattle.std.specs.Mem.Slots.{slots_items, slots_counts}
use Rattle.rt_words.specs.Account.{IsTally}
use Rattle.rt_words.specs.Lines.{Line, word_count}
use Rattle.rt_words.specs.Ending.{AllGathered, OneHistory}
use Rattle.rt_words.proofs.Closing.{ends, ends_behind}
use Rattle.rt_words.proofs.words.Words.close.Goals as goal

pub returns-clause-history : goal.returns-clause-history
returns-clause-history c =
    let seat = c.line.inside.seat in
    subst (λ (l : Line). OneHistory l c.bits_in-bits.result) c.line.view_is
    (ends c.self.inside.table.shared.key (slots_items c.close_with.result.words) c.bits_in-bits.result
    (slots_items c.close_with.result.slots) seat.id seat.me.0
    (record { table = seat.table_id; may = seat.me.0.may }) c.line.inside.here c.line.inside.there
    (c.line.invariant.seat (ap (λ (l : Line). l.number) c.line.view_is ∙ c.requires.first))
    c.close_with.ensures.values.2 c.bits_in-bits.ensures
    (subst (λ (l : Line). AllGathered l.made l.gathered) (sym c.line.view_is) c.requires.gathered))

pub returns-clause-own : goal.returns-clause-own
returns-clause-own c =
    subst (λ (l : Line). IsTally l.here l.there l.calls c.line.inside.tally) c.line.view_is c.line.invariant.counted

pub returns-clause-behind : goal.returns-clause-behind
returns-clause-behind c = λ k l.
    let long = (slots_counts c.close_with.result.words).0 in
    let words = c.close_with.ensures.counts.0 in
    let same = ap word_count c.self.view_is in
    ends_behind (slots_items c.close_with.result.words) c.bits_in-bits.result k c.bits_in-bits.ensures (omega arith)

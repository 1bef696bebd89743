use Rattle.std.proofs.Common.{refl, ap, ◌∙◌}
use Rattle.rt_words.specs.Lines.{Row, Line}
use Rattle.rt_words.specs.Inside.Steps.{view_after_split, view_of_new}
use Rattle.rt_words.proofs.Tallies.{after_still, new_sound}
use Rattle.rt_words.proofs.line.Line.split.Goals as goal

pub split_off-requires-clause-table : goal.split_off-requires-clause-table
split_off-requires-clause-table c = ap (λ (l : Line). l.words.table) c.self.view_is
    ∙ ap (λ (r : Row). r.table) c.requires.words

pub split_off-requires-clause-first : goal.split_off-requires-clause-first
split_off-requires-clause-first c =
    c.self.invariant.seat (ap (λ (l : Line). l.number) c.self.view_is ∙ c.requires.first)

pub invariant_of-self : goal.invariant_of-self
invariant_of-self c =
    let s = c.split_off.ensures in
    let me = c.self.inside.seat.me in
    after_still c.self.inside.seat.id _ me _ c.self.inside.here c.self.inside.there c.self.inside.tally c.self.invariant
    s.first (view_after_split c.args.number me.0) s.maker refl refl

pub invariant_of-result : goal.invariant_of-result
invariant_of-result c =
    new_sound _ _ (view_of_new c.args.number c.self.inside.seat.me.0) c.args.here c.args.there _
    c.split_off.ensures.line (λ e. absurd (c.requires.other e)) refl c.requires.near c.requires.far
    c.none.ensures.raised c.none.ensures.merged c.none.ensures.latched

use Rattle.std.proofs.Common.{◌≡◌, ℕ, ◌+◌, ◌*◌, ◌-◌, ◌^◌, ◌<◌, length, sym, ap, ◌∙◌, subst, arith}
use Rattle.rt_words.specs.declared.call.Call.TheVariants.{Latch}
use Rattle.rt_words.specs.Object.{IsPending}
use Rattle.rt_words.specs.Row.{word_in_row}
use Rattle.rt_words.specs.Lines.{Row, Line}
use Rattle.rt_words.specs.Inside.Steps.{view_after_call}
use Rattle.rt_words.proofs.Tallies.{after_latched, latched_room}
use Rattle.rt_words.proofs.line.Line.latch.Goals as goal

pub latch_word-found-requires-clause-table : goal.latch_word-found-requires-clause-table
latch_word-found-requires-clause-table c = ap (λ (l : Line). l.words.table) c.self.view_is
    ∙ ap (λ (r : Row). r.table) c.requires.words

pub latch_word-found-requires-clause-word : goal.latch_word-found-requires-clause-word
latch_word-found-requires-clause-word c =
    omega (arith, c.from.ensures, c.requires.first, c.requires.word)

pub count_bits-requires-clause-room : goal.count_bits-requires-clause-room
count_bits-requires-clause-room c =
    latched_room c.self.inside.here c.self.inside.there c.self.inside.seat.me.0.calls c.self.inside.tally
    c.self.invariant.counted c.self.invariant.room_latched
    (subst (λ (l : Line). length l.calls < 2 ^ 32 - 1) (sym c.self.view_is) c.requires.room)

pub invariant_of-self : goal.invariant_of-self
invariant_of-self c =
    let f = c.latch_word-found.ensures in
    let me = c.self.inside.seat.me in
    let here : c.self.inside.here ≡ c.args.self.now.here = ap (λ (l : Line). l.here) c.self.view_is in
    let place : c.args.first + c.from.result ≡ word_in_row c.self.inside.here c.args.k =
    omega (arith, here, c.from.ensures, c.requires.first) in
    after_latched c.self.inside.seat.id _ me _ c.self.inside.here c.self.inside.there c.self.inside.tally
    c.self.invariant f.id f.latched.0 c.args.k c.latch_word-found.result _ c.requires.core
    (f.latched.1 ∙ ap (λ (k : ℕ). (view_after_call me.0 f.latched.0 (Latch k c.latch_word-found.result), me.1)) place)
    (c.count_bits.ensures.room ∙ c.self.invariant.room_latched) c.count_bits.ensures.counted

pub returns-clause-may : goal.returns-clause-may
returns-clause-may c = λ bit small set.
    let place : c.args.first + c.from.result ≡ word_in_row c.args.self.now.here c.args.k =
    omega (arith, c.from.ensures, c.requires.first) in
    let words = ap (λ (l : Line). l.words) c.self.view_is ∙ c.requires.words in
    subst (λ (x : Row × ℕ). IsPending x.0.may (32 * x.1 + bit)) (λ i. (words i, place i))
    (c.latch_word-found.ensures.latched.4 bit small set)

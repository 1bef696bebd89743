use Rattle.std.proofs.Common.{◌≡◌, ℕ, List, ◌+◌, ◌*◌, ◌/◌, ◌%◌, ◌^◌, ◌<◌, sym, ap, ◌∙◌, subst, arith}
use Rattle.std.proofs.lemmas.Nat.{one_shl}
use Rattle.std.proofs.lemmas.Nat.Bits.{shr_and_one}
use Rattle.atomic_table.specs.Table.{Me}
use Rattle.rt_words.specs.declared.call.Pended.{Pended}
use Rattle.rt_words.specs.declared.call.Call.TheVariants.{Pend}
use Rattle.rt_words.specs.declared.view.View.{View}
use Rattle.rt_words.specs.Object.{IsPending}
use Rattle.rt_words.specs.Row.{bit_in_row}
use Rattle.rt_words.specs.Lines.{Row, Line}
use Rattle.rt_words.specs.History.{Entry}
use Rattle.rt_words.specs.Inside.Steps.{view_after_call, ExtendsByCall, answer_at}
use Rattle.rt_words.proofs.Pending.{pends_as, answer_merged, answer_raised}
use Rattle.rt_words.proofs.Tallies.{after_merged, after_raised}
use Rattle.rt_words.proofs.line.Line.pend.Goals as goal

-- the mask of a bit of the row
mask_of : (there number mask : ℕ) → mask ≡ 2 ^ (number % 32) → mask ≡ 2 ^ (bit_in_row there number % 32)
mask_of there number mask is =
    let low : number % 32 ≡ bit_in_row there number % 32 = omega arith in is ∙ ap (λ (n : ℕ). 2 ^ n) low

pub fetch_or-found-requires : goal.fetch_or-found-requires
fetch_or-found-requires c =
    let number : ℕ = c.get-number.result in
    let there : ℕ = c.self.inside.there in
    let may_be : IsPending c.words.inside.table.shared.key (bit_in_row there number) =
    subst (λ (x : Row × Line × ℕ). IsPending x.0.may (bit_in_row x.1.there x.2))
    (λ i. (sym c.words.view_is i, sym c.self.view_is i, sym c.get-number.ensures.value i)) c.requires.may in
    let inside = c.words.invariant.covers (bit_in_row there number) may_be in
    let word : c.from.result + c.from-2.result ≡ bit_in_row there number / 32 =
    omega (arith, c.from.ensures, c.from-2.ensures) in (
      ap (λ (l : Line). l.words.table) c.self.view_is ∙ ap (λ (r : Row). r.table) c.requires.words
          ∙ sym (ap (λ (r : Row). r.table) c.words.view_is),
      omega (arith, word, inside),
      pends_as c.words.inside.table.shared.key c.words.inside.table.shared.table_id.slots c.self.inside.seat.id
          (bit_in_row there number) (c.from.result + c.from-2.result) _ c.self.inside.seat.me word
          (mask_of there number _ (one_shl (number % 32) 64 (omega arith))) c.self.invariant.seat may_be,
    )

-- the view after the fetch_or, by the answer
told : (word bit found : ℕ) (me me' : Me (Unit {0}) View) (mask : ℕ) (answer : Pended) (seen : List Entry)
    → mask ≡ 2 ^ (bit % 32) → word ≡ bit / 32
    → ((b : ℕ) → b < 32 → mask ≡ 2 ^ b
    → (me' ≡ (view_after_call me.0 seen (Pend (32 * word + b) (answer_at found b)), me.1))
    × ExtendsByCall me.0.seen me.0.line (Pend (32 * word + b) (answer_at found b)) seen)
    → answer_at found (bit % 32) ≡ answer → me' ≡ (view_after_call me.0 seen (Pend bit answer), me.1)
told word bit found me me' mask answer seen m w tell is =
    let whole : 32 * word + bit % 32 ≡ bit = omega arith in
    (tell (bit % 32) (omega arith) m).0 ∙ ap (λ (x : ℕ × Pended). (view_after_call me.0 seen (Pend x.0 x.1), me.1))
    (λ i. (whole i, is i))

pub invariant_of-self : goal.invariant_of-self
invariant_of-self c =
    let number : ℕ = c.get-number.result in
    let there : ℕ = c.self.inside.there in
    let found = c.fetch_or-found.result in
    let f = c.fetch_or-found.ensures in
    let low : bit_in_row there number % 32 ≡ number % 32 = omega arith in
    let stood = answer_merged found (number % 32) (sym (shr_and_one found (number % 32)) ∙ c.if-found-bit-eq1.true) in
    rw c.from-number.ensures
    (after_merged c.self.inside.seat.id _ c.self.inside.seat.me _ c.self.inside.here there c.self.inside.tally
    c.self.invariant f.1 f.2.0 number (omega (arith, c.get-number.ensures.in_range))
    (told (c.from.result + c.from-2.result) (bit_in_row there number) found c.self.inside.seat.me
    c.fetch_or-found.new.seat.me _ _ f.2.0 (mask_of there number _ (one_shl (number % 32) 64 (omega arith)))
    (omega (arith, c.from.ensures, c.from-2.ensures)) f.2.1 (ap (answer_at found) low ∙ stood)))

pub invariant_of-self-else-found-bit-eq1 : goal.invariant_of-self-else-found-bit-eq1
invariant_of-self-else-found-bit-eq1 c =
    let number : ℕ = c.get-number.result in
    let there : ℕ = c.self.inside.there in
    let found = c.fetch_or-found.result in
    let f = c.fetch_or-found.ensures in
    let low : bit_in_row there number % 32 ≡ number % 32 = omega arith in
    let clear = answer_raised found (number % 32)
    (λ e. c.if-found-bit-eq1.false (shr_and_one found (number % 32) ∙ e)) in
    rw c.from-number.ensures
    (after_raised c.self.inside.seat.id _ c.self.inside.seat.me _ c.self.inside.here there c.self.inside.tally
    c.self.invariant f.1 f.2.0 number (omega (arith, c.get-number.ensures.in_range))
    (told (c.from.result + c.from-2.result) (bit_in_row there number) found c.self.inside.seat.me
    c.fetch_or-found.new.seat.me _ _ f.2.0 (mask_of there number _ (one_shl (number % 32) 64 (omega arith)))
    (omega (arith, c.from.ensures, c.from-2.ensures)) f.2.1 (ap (answer_at found) low ∙ clear)))

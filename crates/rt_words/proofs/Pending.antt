-- A pend keeps the rule.
use Rattle.std.proofs.Common.{◌≡◌, ℕ, ◌+◌, ◌-◌, ◌*◌, ◌/◌, ◌%◌, ◌^◌, ◌<◌, ◌≢◌, if◌then◌else◌, List, [], ◌∷◌, ◌++◌}
use Rattle.std.proofs.Common.{length, get_or, set, bit_or, sym, ap, ◌∙◌, subst, arith, length-set}
use Rattle.std.proofs.Common.{get_or-set_same, get_or-set_other, eq-eqb, ne_eqb}
use Rattle.std.specs.Int.{bit_at}
use Rattle.std.proofs.lemmas.Nat.{or_of_32, pow_below}
use Rattle.std.proofs.lemmas.Nat.Bits.{bit_at-pow_same, bit_at-pow_other, bit_at-lt}
use mathlib.Core.Option.{none}
use mathlib.Core.Logic.{dite}
use native.Mathlib.Decide.{ℕ_discrete}
use Rattle.atomic_table.specs.Table.{step, keeps, Allows}
use Rattle.rt_words.specs.declared.call.Pended.{Pended}
use Rattle.rt_words.specs.declared.call.Pended.TheVariants.{Raised, Merged}
use Rattle.rt_words.specs.declared.call.Call.{Call}
use Rattle.rt_words.specs.declared.call.Call.TheVariants.{Pend}
use Rattle.rt_words.specs.declared.view.View.{View}
use Rattle.rt_words.specs.Object.{IsPending, IsAnswered, after}
use Rattle.rt_words.specs.History.{Entry}
use Rattle.rt_words.specs.Inside.Rule.{IsRow, padded_words, HasHistory}
use Rattle.rt_words.specs.Inside.Seats.{Seat, IsLive}
use Rattle.rt_words.specs.Inside.Steps.{view_after_call, ExtendsByCall, answer_at, pend_step}
use Rattle.rt_words.proofs.Bits.{blank, set_padding, get_or_padding, with_bit, pend_other}
use Rattle.rt_words.proofs.Histories.{entry}
use Rattle.rt_words.proofs.Seeing.{extends}
use Rattle.rt_words.proofs.Calling.{called}

-- two equal powers of 2 are one power
pub one_power : (a b : ℕ) → 2 ^ a ≡ 2 ^ b → a ≡ b
one_power a b e = dite (ℕ_discrete a b) (λ h. h) (λ ne.
    let one = bit_at-pow_same a in
    let none_ = bit_at-pow_other b a ne in
    let same : bit_at (2 ^ a) a ≡ bit_at (2 ^ b) a = ap (λ n. bit_at n a) e in
    absurd (omega arith))

answered_at : (words : List ℕ) (irq n : ℕ) → get_or words (irq / 32) 0 ≡ n → Dec (bit_at n (irq % 32) ≡ 1)
    → IsAnswered words (Pend irq (answer_at n (irq % 32)))
answered_at words irq n is (yes e) = subst (λ b. IsAnswered words (Pend irq (if b then Merged else Raised)))
    (sym (eq-eqb (bit_at n (irq % 32)) 1 e)) (ap (λ w. bit_at w (irq % 32)) is ∙ e)
answered_at words irq n is (no ne) =
    let l = bit_at-lt n (irq % 32) in
    let z : bit_at n (irq % 32) ≡ 0 = omega arith in
    subst (λ b. IsAnswered words (Pend irq (if b then Merged else Raised))) (sym (ne_eqb (bit_at n (irq % 32)) 1 ne))
    (ap (λ w. bit_at w (irq % 32)) is ∙ z)

-- Merged exactly where the bit stood
answered : (words : List ℕ) (irq n : ℕ) → get_or words (irq / 32) 0 ≡ n
    → IsAnswered words (Pend irq (answer_at n (irq % 32)))
answered words irq n is = answered_at words irq n is (ℕ_discrete (bit_at n (irq % 32)) 1)

abbrev pend_in : List ℕ → ℕ → List ℕ
pend_in words irq = set words (irq / 32) (with_bit (get_or words (irq / 32) 0) (irq % 32))

low_by : (words : List ℕ) (irq : ℕ) → irq / 32 < length words → ((k : ℕ) → get_or words k 0 < 2 ^ 32) → (k : ℕ)
    → Dec (k ≡ irq / 32) → get_or (pend_in words irq) k 0 < 2 ^ 32
low_by words irq l low k (yes e) =
    let here : get_or (pend_in words irq) k 0 ≡ with_bit (get_or words (irq / 32) 0) (irq % 32) =
    ap (λ i. get_or (pend_in words irq) i 0) e ∙ get_or-set_same words (irq / 32) _ 0 l in
    let bit : irq % 32 < 32 = omega arith in
    subst (λ (n : ℕ). n < 2 ^ 32) (sym here) (or_of_32 (get_or words (irq / 32) 0) (2 ^ (irq % 32)) (low (irq / 32))
    (pow_below (irq % 32) 32 bit))
low_by words irq l low k (no ne) = subst (λ (n : ℕ). n < 2 ^ 32) (sym (get_or-set_other words (irq / 32) k _ 0 ne))
    (low k)

within_by : (may words : List ℕ) (irq : ℕ) → irq / 32 < length words → IsPending may irq
    → ((i : ℕ) → IsPending words i → IsPending may i) → (i : ℕ) → IsPending (pend_in words irq) i → Dec (i ≡ irq)
    → IsPending may i
within_by may words irq l may_be within i h (yes e) = subst (λ (n : ℕ). IsPending may n) (sym e) may_be
within_by may words irq l may_be within i h (no ne) = within i (sym (pend_other words irq i (λ _. l) ne) ∙ h)

pend_row : (may words : List ℕ) (irq : ℕ) → IsPending may irq → IsRow may words → IsRow may (pend_in words irq)
pend_row may words irq may_be is =
    let l = is.covers irq may_be in
    let e = length-set words (irq / 32) (with_bit (get_or words (irq / 32) 0) (irq % 32)) in
    record {
      short = let s = is.short in omega arith;
      low = λ k. low_by words irq l is.low k (ℕ_discrete k (irq / 32));
      within = λ i h. within_by may words irq l may_be is.within i h (ℕ_discrete i irq);
      covers = λ i h. let c = is.covers i h in omega arith;
    }

pend_padded : (words : List ℕ) (irq : ℕ) (a : Pended) → irq / 32 < length words
    → after (padded_words words) (Pend irq a) ≡ padded_words (pend_in words irq)
pend_padded words irq a l =
    let i : ℕ = irq / 32 in
    let n : ℕ = with_bit (get_or words i 0) (irq % 32) in
    ap (λ (w : ℕ). set (padded_words words) i (with_bit w (irq % 32))) (get_or_padding words (32 - length words) i)
    ∙ set_padding words (blank (32 - length words)) i n l
    ∙ ap (λ (m : ℕ). set words i n ++ blank (32 - m)) (sym (length-set words i n))

-- a step of a line that sets a bit
pub pends : (may : List ℕ) (slots id irq : ℕ) (me : Seat) → IsLive id me.0 → IsPending may irq
    → Allows (HasHistory may) slots id me (irq / 32) (λ n. bit_or n (2 ^ (irq % 32)))
    (pend_step (step slots (irq / 32) (2 ^ (irq % 32)) 0 none) me)
pends may slots id irq me live may_be s kept homes at small =
    let st = kept.2 in
    let n : ℕ = get_or s.words (irq / 32) 0 in
    let c : Call = Pend irq (answer_at n (irq % 32)) in
    let more : List Entry = kept.0 ++ entry me.0.line c ∷ [] in
    let w : View = view_after_call me.0 more c in
    let goes_on =
    called may s.words (pend_in s.words irq) s.views kept.0 kept.1 id me.0 c st at live
    (answered (padded_words s.words) irq n (get_or_padding s.words (32 - length s.words) (irq / 32)))
    (pend_padded s.words irq (answer_at n (irq % 32)) (st.row.covers irq may_be))
    (pend_row may s.words irq may_be st.row) in (
      w,
      keeps,
      tt,
      (more, goes_on.0, goes_on.1),
      (
        more,
        λ bit l e.
            let is : irq % 32 ≡ bit = one_power (irq % 32) bit e in
            let whole : irq ≡ 32 * (irq / 32) + bit = omega arith in
            let same : c ≡ Pend (32 * (irq / 32) + bit) (answer_at n bit) =
            ap (λ (x : ℕ × ℕ). Pend x.0 (answer_at n x.1)) (λ i. (whole i, is i)) in (
              ap (λ (x : Call). (view_after_call me.0 more x, me.1)) same,
              subst (λ (x : Call). ExtendsByCall me.0.seen me.0.line x more) same
                  (extends me.0.seen kept.0 me.0.line c (st.seen id me.0 at)),
            ),
      ),
    )

-- the same, at the word and the operand of the code
pub pends_as : (may : List ℕ) (slots id irq word mask : ℕ) (me : Seat) → word ≡ irq / 32 → mask ≡ 2 ^ (irq % 32)
    → IsLive id me.0 → IsPending may irq
    → Allows (HasHistory may) slots id me word (λ n. bit_or n mask) (pend_step (step slots word mask 0 none) me)
pends_as may slots id irq word mask me w m live may_be =
    subst (λ (x : ℕ). Allows (HasHistory may) slots id me x (λ n. bit_or n mask)
    (pend_step (step slots x mask 0 none) me))
    (sym w)
    (subst (λ (y : ℕ). Allows (HasHistory may) slots id me (irq / 32) (λ n. bit_or n y)
    (pend_step (step slots (irq / 32) y 0 none) me)) (sym m) (pends may slots id irq me live may_be))

-- the answer, by the test of the bit
pub answer_merged : (found bit : ℕ) → bit_at found bit ≡ 1 → answer_at found bit ≡ Merged
answer_merged found bit e = ap (λ b. if b then Merged else Raised) (eq-eqb (bit_at found bit) 1 e)

pub answer_raised : (found bit : ℕ) → bit_at found bit ≢ 1 → answer_at found bit ≡ Raised
answer_raised found bit ne = ap (λ b. if b then Merged else Raised) (ne_eqb (bit_at found bit) 1 ne)

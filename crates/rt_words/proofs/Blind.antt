-- A latch that answers 0 without a look keeps no rule: worked for one word, in which the bit stands that a line pended.
use Rattle.std.proofs.Common.{◌≡◌, ℕ, zero, suc, ◌/◌, ◌%◌, ◌^◌, ◌<◌, ◌≢◌, List, [], ◌∷◌, get_or}
use Rattle.std.proofs.Common.{Contains, refl, sym, ap, ◌∙◌, subst, ⊎_elim, arith}
use Rattle.std.specs.Int.{bit_at}
use Rattle.std.proofs.lemmas.Nat.Bits.{bit_at-zero}
use mathlib.Core.List.{IsPrefix}
use mathlib.Core.Logic.{dite}
use mathlib.Core.Option.{some, some-injective, some-ne-none}
use native.Mathlib.Decide.{ℕ_discrete}
use lib.ListN.{get_elem?}
use Rattle.atomic_table.specs.Table.{State, Allows}
use Rattle.rt_words.specs.declared.call.Pended.TheVariants.{Raised}
use Rattle.rt_words.specs.declared.call.Call.{Call}
use Rattle.rt_words.specs.declared.call.Call.TheVariants.{Latch, Pend}
use Rattle.rt_words.specs.declared.view.View.{View}
use Rattle.rt_words.specs.Object.{IsAnswered}
use Rattle.rt_words.specs.History.{Entry, LeavesWords, IsLegal, part}
use Rattle.rt_words.specs.Inside.Rule.{padded_words, HistoryStands, HasHistory}
use Rattle.rt_words.specs.Inside.Seats.{Seat, InUse, Seated}
use Rattle.rt_words.specs.Inside.Steps.{newcomer}
use Rattle.rt_words.proofs.Lists.{in_head, in_none, in_cases}
use Rattle.rt_words.proofs.Histories.{entry}
use Rattle.rt_words.proofs.Parting.{part_first, part_rest}
use Rattle.rt_words.proofs.Seeing.{prefix_self, prefix_none}

-- line 0 has pended interrupt 0, and has seen that
abbrev pend : Entry
pend = entry 0 (Pend 0 Raised)

abbrev word : List ℕ
word = 1 ∷ []

abbrev first_seat : View
first_seat = record (newcomer word) { made = 0 ∷ [] }

abbrev line_seat : View
line_seat = record (newcomer word) { line = 0; calls = Pend 0 Raised ∷ []; seen = pend ∷ [] }

abbrev views : List View
views = first_seat ∷ line_seat ∷ []

abbrev table : State (Unit {0}) View
table = record { words = word; homes = []; views = views }

at_cases : (P : View → Type 0) (seat : ℕ) (v : View) → get_elem? views seat ≡ some v → P first_seat → P line_seat → P v
at_cases P zero v at a b = subst P (some-injective first_seat v at) a
at_cases P (suc zero) v at a b = subst P (some-injective line_seat v at) b
at_cases P (suc (suc seat)) v at a b = absurd (some-ne-none v (sym at))

others : (seat : ℕ) (v : View) → get_elem? views seat ≡ some v → v.line ≢ 255 → (seat ≡ 1) × (line_seat ≡ v)
others zero v at ne = absurd (ne (sym (ap (λ (x : View). x.line) (some-injective first_seat v at))))
others (suc zero) v at ne = (refl, some-injective line_seat v at)
others (suc (suc seat)) v at ne = absurd (some-ne-none v (sym at))

low : (k : ℕ) → get_or word k 0 < 2 ^ 32
low zero = omega arith
low (suc k) = omega arith

covers : (q r : ℕ) → bit_at (get_or word q 0) r ≡ 1 → q < 1
covers zero r h = omega arith
covers (suc q) r h = let z : bit_at 0 r ≡ 0 = bit_at-zero r in absurd (omega arith)

seated : Seated (pend ∷ []) views first_seat
seated = record {
  first = refl;
  number = refl;
  own = refl;
  lines = λ seat v at ne.
      subst (λ (x : View). InUse (pend ∷ []) first_seat x) (others seat v at ne).1
      record { same_calls = refl; made = in_head 0 []; ungathered = in_none 0 };
  apart = λ i j v w a b ne e. (others i v a ne).0 ∙ sym (others j w b (λ f. ne (e ∙ f))).0;
  parts = λ p h. absurd (in_none p h);
  once = tt;
  unmade = λ number other out.
      part_rest pend [] number (λ e. out (subst (λ (n : ℕ). Contains (0 ∷ []) n) e (in_head 0 [])));
}

standing : HistoryStands word word views (pend ∷ []) first_seat
standing = record {
  row =
      record { short = omega arith; low = low; within = λ irq h. h; covers = λ irq h. covers (irq / 32) (irq % 32) h };
  legal = (refl, refl);
  seated = seated;
  seen = λ seat v at.
      at_cases (λ (x : View). IsPrefix x.seen (pend ∷ [])) seat v at (prefix_none (pend ∷ []))
      (prefix_self (pend ∷ []));
  same_may = λ seat v at lives. at_cases (λ (x : View). x.may ≡ word) seat v at refl refl;
  behind = omega arith;
  last = λ all. record { earlier = pend ∷ []; is = refl };
}

-- behind the pend, the first line's latch of 0 alone is not legal
illegal : (more : List Entry) (last : List ℕ) → LeavesWords (padded_words word) more last
    → part more 255 ≡ Latch 0 0 ∷ []
    → ((n : ℕ) → n ≢ 255 → part more n ≡ []) → ⊥
illegal [] last leads own others = absurd cc
illegal (e ∷ es) last leads own others = dite (ℕ_discrete e.line 255)
    (λ is.
    let both : e.call ∷ part es 255 ≡ Latch 0 0 ∷ [] = sym (part_first e es 255 is) ∙ own in
    let same : e.call ≡ Latch 0 0 = cc in
    let answer : 0 ≡ 1 = subst (λ (c : Call). IsAnswered (padded_words word) c) same leads.0 in
    absurd (omega arith))
    (λ ne.
    let gone : e.call ∷ part es e.line ≡ [] = sym (part_first e es e.line refl) ∙ others e.line ne in
    absurd cc)

-- the first line has made a latch of word 0 and no other call, with the answer 0, whatever was found
abbrev pub AnswersBlindly : ℕ → Seat → Type 0
AnswersBlindly found after = (after.0.calls ≡ Latch 0 0 ∷ []) × (after.0.made ≡ 0 ∷ [])

-- no step has that, whatever it writes into the word
pub blind_refused : (f : ℕ → ℕ) → Allows (HasHistory word) 0 0 (first_seat, []) 0 f AnswersBlindly → ⊥
blind_refused f allows =
    let left : List ℕ = padded_words (f 1 ∷ []) in
    let step = allows table (pend ∷ [], first_seat, standing) refl refl (omega arith) in
    let w : View = step.0 in
    let history : List Entry = step.3.0 in
    let st = step.3.2 in
    let maker_is : step.3.1 ≡ w = sym (some-injective w step.3.1 st.seated.first) in
    let seen = st.seen 1 line_seat refl in
    let more : List Entry = seen.0 in
    let goes_on : pend ∷ more ≡ history = seen.1 in
    let legal : IsLegal (pend ∷ more) left = subst (λ (h : List Entry). IsLegal h left) (sym goes_on) st.legal in
    let own : part more 255 ≡ Latch 0 0 ∷ [] =
    ap (λ (h : List Entry). part h 255) goes_on ∙ st.seated.own ∙ ap (λ (v : View). v.calls) maker_is ∙ step.4.0 in
    let line : Pend 0 Raised ∷ part more 0 ≡ Pend 0 Raised ∷ [] =
    ap (λ (h : List Entry). part h 0) goes_on ∙ (st.seated.lines 1 line_seat refl (λ e. omega arith)).same_calls in
    illegal more left legal.1 own (λ n other. dite (ℕ_discrete 0 n)
    (λ e. let none_ : part more 0 ≡ [] = cc in subst (λ (m : ℕ). part more m ≡ []) e none_)
    (λ ne.
    sym (part_rest pend more n ne) ∙ ap (λ (h : List Entry). part h n) goes_on
    ∙ st.seated.unmade n other (λ h.
    let made : Contains (0 ∷ []) n =
    subst (λ (ns : List ℕ). Contains ns n) (ap (λ (v : View). v.made) maker_is ∙ step.4.1) h in
    ⊎_elim ne (λ t. in_none n t) (in_cases 0 n [] made))))

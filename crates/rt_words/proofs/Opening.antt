-- New words meet the rule.
use Rattle.std.proofs.Common.{◌≡◌, ◌≢◌, ℕ, ◌+◌, ◌-◌, ◌*◌, ◌/◌, ◌%◌, ◌^◌, ◌<◌, ◌≤◌, zero, suc, List, [], ◌∷◌, ◌++◌}
use Rattle.std.proofs.Common.{refl, sym, ap, ◌∙◌, subst, arith}
use Rattle.std.proofs.lemmas.List.{replicate-append-replicate}
use Rattle.std.specs.Int.{bit_at}
use Rattle.std.proofs.lemmas.Nat.Bits.{bit_at-zero}
use mathlib.Core.List.{IsPrefix}
use mathlib.Core.Option.{some, some-injective, some-ne-none}
use lib.ListN.{get_elem?}
use Rattle.rt_words.specs.declared.view.View.{View}
use Rattle.rt_words.specs.Object.{IsPending, pending_bit}
use Rattle.rt_words.specs.Inside.Rule.{IsRow, padded_words, HistoryStands}
use Rattle.rt_words.specs.Inside.Seats.{Seated}
use Rattle.rt_words.specs.Inside.Steps.{newcomer}
use Rattle.rt_words.proofs.Bits.{blank, blank_long, zeros}
use Rattle.rt_words.proofs.Lists.{in_none}
use Rattle.rt_words.proofs.Seeing.{prefix_none}

blank_row : (may : List ℕ) (n : ℕ) → n ≤ 32 → ((bit : ℕ) → IsPending may bit → bit < 32 * n) → IsRow may (blank n)
blank_row may n l covers = record {
  short = subst (λ (m : ℕ). m ≤ 32) (sym (blank_long n)) l;
  low = λ k. subst (λ (m : ℕ). m < 2 ^ 32) (sym (zeros n k)) (omega arith);
  within = λ bit h. let z : pending_bit (blank n) bit ≡ 0 = ap (λ w. bit_at w (bit % 32)) (zeros n (bit / 32))
      ∙ bit_at-zero (bit % 32) in absurd (omega arith);
  covers = λ bit h. let c = covers bit h in subst (λ (m : ℕ). bit / 32 < m) (sym (blank_long n)) (omega arith);
}

blank_padded : (n : ℕ) → n ≤ 32 → blank 32 ≡ padded_words (blank n)
blank_padded n l =
    let whole : n + (32 - n) ≡ 32 = omega arith in
    sym (ap (λ (m : ℕ). blank n ++ blank (32 - m)) (blank_long n) ∙ replicate-append-replicate n (32 - n) 0
    ∙ ap blank whole)

new_seated : (may : List ℕ) → Seated [] (newcomer may ∷ []) (newcomer may)
new_seated may = record {
  first = refl;
  number = refl;
  own = refl;
  lines = λ seat v at other. absurd (none_else seat v at other);
  apart = λ i j v w a b other e. absurd (none_else i v a other);
  parts = λ p h. absurd (in_none p h);
  once = tt;
  unmade = λ number other out. refl;
}
  where
    none_else : (seat : ℕ) (v : View) → get_elem? (newcomer may ∷ []) seat ≡ some v → v.line ≢ 255 → ⊥
    none_else zero v at other = other (sym (ap (λ (x : View). x.line) (some-injective (newcomer may) v at)))
    none_else (suc seat) v at other = some-ne-none v (sym at)

pub opens : (may words : List ℕ) (n : ℕ) → words ≡ blank n → n ≤ 32 → ((bit : ℕ) → IsPending may bit → bit < 32 * n)
    → HistoryStands may words (newcomer may ∷ []) [] (newcomer may)
opens may words n is l covers =
    subst (λ (ws : List ℕ). HistoryStands may ws (newcomer may ∷ []) [] (newcomer may)) (sym is)
    record {
      row = blank_row may n l covers;
      legal = blank_padded n l;
      seated = new_seated may;
      seen = unseen;
      same_may = λ seat v at lives. known seat v at;
      behind = omega arith;
      last = λ all. record { earlier = []; is = refl };
    }
  where
    unseen : (seat : ℕ) (v : View) → get_elem? (newcomer may ∷ []) seat ≡ some v → IsPrefix v.seen []
    unseen zero v at = subst (λ (x : View). IsPrefix x.seen []) (some-injective (newcomer may) v at) (prefix_none [])
    unseen (suc seat) v at = absurd (some-ne-none v (sym at))

    known : (seat : ℕ) (v : View) → get_elem? (newcomer may ∷ []) seat ≡ some v → v.may ≡ may
    known zero v at = sym (ap (λ (x : View). x.may) (some-injective (newcomer may) v at))
    known (suc seat) v at = absurd (some-ne-none v (sym at))

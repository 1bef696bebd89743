-- A latch keeps the rule.
use Rattle.std.proofs.Common.{◌≡◌, ℕ, ◌+◌, ◌-◌, ◌*◌, ◌≤◌, List, [], ◌∷◌, ◌++◌, length, get_or, set, bit_and, refl, sym}
use Rattle.std.proofs.Common.{ap, ◌∙◌, subst, arith, length-set}
use Rattle.std.specs.Int.Bits.{and_zero_r}
use mathlib.Core.Option.{none, some}
use lib.ListN.{get_elem?}
use native.Mathlib.Decide.{ℕ_discrete}
use Rattle.std.proofs.lemmas.List.{set-get_or}
use Rattle.atomic_table.specs.Table.{State, Act, step, keeps, stepped, carried_after, Valid, Allows}
use Rattle.atomic_table.proofs.Lists.{set_again}
use Rattle.rt_words.specs.declared.call.Call.TheVariants.{Latch}
use Rattle.rt_words.specs.declared.view.View.{View}
use Rattle.rt_words.specs.Object.{IsPending}
use Rattle.rt_words.specs.History.{Entry}
use Rattle.rt_words.specs.Inside.Rule.{IsRow, padded_words, HasHistory}
use Rattle.rt_words.specs.Inside.Seats.{Seat, IsLive}
use Rattle.rt_words.specs.Inside.Steps.{view_after_call, latch_step, glance_step}
use Rattle.rt_words.proofs.Bits.{blank, zero_padding, zero_below, zero_pending, get_or_padding, bit_of_word}
use Rattle.rt_words.proofs.Histories.{entry}
use Rattle.rt_words.proofs.Seeing.{extends}
use Rattle.rt_words.proofs.Calling.{called}

zero_row : (may words : List ℕ) (k : ℕ) → IsRow may words → IsRow may (set words k 0)
zero_row may words k is = record {
  short = subst (λ (n : ℕ). n ≤ 32) (sym (length-set words k 0)) is.short;
  low = λ j. let l = is.low j in let b = zero_below words k j in omega arith;
  within = λ bit h. is.within bit (zero_pending words k bit h);
  covers = λ bit h. let l = is.covers bit h in let e = length-set words k 0 in omega arith;
}

-- the words padded again after a word was set to 0
zero_padded : (words : List ℕ) (k : ℕ) → set (padded_words words) k 0 ≡ padded_words (set words k 0)
zero_padded words k = zero_padding words (32 - length words) k ∙ ap (λ (n : ℕ). set words k 0 ++ blank (32 - n))
    (sym (length-set words k 0))

-- what the words, a seat and its caller get where a step of it leaves a word as 0
module _ (may : List ℕ) (slots k id : ℕ) (me : Seat) (live : IsLive id me.0) (s : State (Unit {0}) View)
    (kept : HasHistory may s) (at : get_elem? s.views id ≡ some me.0) where
  abbrev found : ℕ
  found = get_or s.words k 0

  abbrev more : List Entry
  more = kept.0 ++ entry me.0.line (Latch k found) ∷ []

  abbrev after_it : View
  after_it = view_after_call me.0 more (Latch k found)

  keeps_rule : HasHistory may (stepped s k 0 id me.1 after_it keeps)
  keeps_rule =
      let st = kept.2 in
      let goes_on =
      called may s.words (set s.words k 0) s.views kept.0 kept.1 id me.0 (Latch k found) st at live
      (sym (get_or_padding s.words (32 - length s.words) k)) (zero_padded s.words k) (zero_row may s.words k st.row) in
      (more, goes_on.0, goes_on.1)

  tells : latch_step (step slots k 0 0 none) me found (after_it, me.1)
  tells =
      let st = kept.2 in (
        more,
        refl,
        extends me.0.seen kept.0 me.0.line (Latch k found) (st.seen id me.0 at),
        st.row.low k,
        λ bit l e.
            subst (λ (m : List ℕ). IsPending m (32 * k + bit)) (sym (st.same_may id me.0 at live))
            (st.row.within (32 * k + bit) (bit_of_word s.words k bit l ∙ e)),
      )

-- a step of a line that sets a word to 0
pub latches : (may : List ℕ) (slots id k : ℕ) (me : Seat) → IsLive id me.0
    → Allows (HasHistory may) slots id me k (λ n. bit_and n 0) (latch_step (step slots k 0 0 none) me)
latches may slots id k me live s kept homes at small = (
  after_it may slots k id me live s kept at,
  keeps,
  tt,
  subst (λ (z : ℕ). HasHistory may (stepped s k z id me.1 (after_it may slots k id me live s kept at) keeps))
      (sym (and_zero_r (get_or s.words k 0))) (keeps_rule may slots k id me live s kept at),
  tells may slots k id me live s kept at,
)

-- a load by a line, which is a latch where it finds 0
pub glances : (may : List ℕ) (slots id k : ℕ) (me : Seat) → IsLive id me.0
    → Allows (HasHistory may) slots id me k (λ n. n) (glance_step (step slots k 0 0 none) me)
glances may slots id k me live s kept homes at small = by (ℕ_discrete (get_or s.words k 0) 0)
  where
    by : Dec (get_or s.words k 0 ≡ 0) → (w : View) × (a : Act (Unit {0})) × Valid s.homes me.1 a
        × HasHistory may (stepped s k (get_or s.words k 0) id me.1 w a)
        × glance_step (step slots k 0 0 none) me (get_or s.words k 0) (w, carried_after me.1 a)
    by (yes none_there) =
        let w : View = after_it may slots k id me live s kept at in (
          w,
          keeps,
          tt,
          subst (λ (z : ℕ). HasHistory may (stepped s k z id me.1 w keeps)) (sym none_there)
              (keeps_rule may slots k id me live s kept at),
          (
            λ is. subst (λ (z : ℕ). latch_step (step slots k 0 0 none) me z (w, me.1)) is
                (tells may slots k id me live s kept at),
            λ some_there. absurd (some_there none_there),
          ),
        )
    by (no some_there) = (
      me.0,
      keeps,
      tt,
      subst (λ (x : List ℕ × List View). HasHistory may record { words = x.0; homes = s.homes; views = x.1 })
          (λ i. (sym (set-get_or s.words k 0) i, sym (set_again s.views id me.0 at) i)) kept,
      (λ is. absurd (some_there is), λ other. refl),
    )

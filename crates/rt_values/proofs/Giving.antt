-- A give keeps the rule.
use Rattle.std.proofs.Common.{◌≡◌, ℕ, ◌+◌, ◌-◌, ◌^◌, ◌<◌, true, false, List, [], ◌∷◌, ◌++◌, get_or, set, refl, sym, ap}
use Rattle.std.proofs.Common.{◌∙◌, subst, arith}
use Rattle.std.proofs.lemmas.Bool.{false≢true}
use mathlib.Core.Option.{none, some}
use lib.ListN.{get_elem?}
use Rattle.atomic_table.specs.Table.{Act, State, Valid, Allows, carried_after, keeps, step, stepped}
use Rattle.rt_values.specs.declared.call.Call.{Call}
use Rattle.rt_values.specs.declared.call.Call.TheVariants.{Give}
use Rattle.rt_values.specs.declared.view.View.{View}
use Rattle.rt_values.specs.Object.{waiting}
use Rattle.rt_values.specs.History.{IsLegal}
use Rattle.rt_values.specs.Inside.Rule.{AllKnow, HasHistory, HistoryStands}
use Rattle.rt_values.specs.Inside.Steps.{Seat, after_give, answer_at, give_step}
use Rattle.rt_values.proofs.Histories.{LeavesWord-push, answered, extends, gives_push, prefix_on, prefix_self}
use Rattle.rt_values.proofs.Histories.{takes_stay, waits}
use Rattle.rt_values.proofs.Views.{know_set, one_set}

-- the number that a give leaves in memory, and its call where this number was found
abbrev left_by : ℕ → ℕ
left_by word = 2 ^ 32 + word

abbrev call_at : ℕ → ℕ → Call
call_at word found = Give (left_by word - 2 ^ 32) (answer_at found)

module _ (words : List ℕ) (views : List View) (history : List Call) (found id word : ℕ) (v : View)
    (st : HistoryStands words views history found) (at : get_elem? views id ≡ some v) (may : v.gives ≡ true)
    (only : v.takes ≡ false) (small : word < 2 ^ 32) where
  abbrev c : Call
  c = call_at word found

  abbrev more : List Call
  more = history ++ c ∷ []

  abbrev new : View
  new = after_give v more c

  legal : IsLegal more (waiting (left_by word))
  legal = subst (IsLegal more) (sym (waits (left_by word) (omega arith)))
      (LeavesWord-push _ (waiting found) history c st.legal (answered found (left_by word - 2 ^ 32)))

  known : AllKnow more (set views id new)
  known =
      let mine = st.known id v at in
      know_set more views id new
      record {
        seen = prefix_self more;
        given = λ m. gives_push history (left_by word - 2 ^ 32) (answer_at found)
            ∙ ap (λ (t : List Call). t ++ c ∷ []) (mine.given m);
        taken = λ m. takes_stay history (left_by word - 2 ^ 32) (answer_at found) ∙ mine.taken m;
        last = λ m t. absurd (false≢true (sym only ∙ t));
      }
      (λ seat u other there.
      let k = st.known seat u there in
      record {
        seen = prefix_on u.seen history (c ∷ []) k.seen;
        given = λ m. absurd (other (st.one_gives seat id u v there at m may));
        taken = λ m. takes_stay history (left_by word - 2 ^ 32) (answer_at found) ∙ k.taken m;
        last = λ m t. absurd (other (st.one_gives seat id u v there at m may));
      })

  pub gave : HistoryStands (set words 0 (left_by word)) (set views id new) more (left_by word)
  gave = record {
    one = ap (λ (ws : List ℕ). set ws 0 (left_by word)) st.one;
    small = omega arith;
    legal = legal;
    known = known;
    one_gives = one_set (λ u. u.gives) views id v new st.one_gives at (λ m. m);
    one_takes = one_set (λ u. u.takes) views id v new st.one_takes at (λ m. m);
  }

-- what a step that gives owes, where this number was found
abbrev Gives : State (Unit {0}) View → ℕ → ℕ → ℕ → Seat → ℕ → Type 0
Gives s slots id word me found =
    (w : View) × (a : Act (Unit {0})) × Valid s.homes me.1 a × HasHistory (stepped s 0 (left_by word) id me.1 w a)
    × give_step (step slots 0 (left_by word) 0 none) me found (w, carried_after me.1 a)

-- a step of a giver, which leaves bit 32 and the word
pub gives_word : (slots id word : ℕ) (me : Seat) → word < 2 ^ 32 → me.0.gives ≡ true → me.0.takes ≡ false
    → Allows HasHistory slots id me 0 (λ n. 2 ^ 32 + word) (give_step (step slots 0 (2 ^ 32 + word) 0 none) me)
gives_word slots id word me small may only s kept homes at fits =
    let history = kept.0 in
    let found = kept.1 in
    let st = kept.2 in
    let c : Call = call_at word found in
    subst (Gives s slots id word me) (sym (ap (λ (ws : List ℕ). get_or ws 0 0) st.one)) (
      after_give me.0 (history ++ c ∷ []) c,
      keeps,
      tt,
      (history ++ c ∷ [], left_by word, gave s.words s.views history found id word me.0 st at may only small),
      (history ++ c ∷ [], refl, extends me.0.seen history c (st.known id me.0 at).seen, st.small),
    )

-- A take keeps the rule.
use Rattle.std.proofs.Common.{◌≡◌, ℕ, true, List, [], ◌∷◌, ◌++◌, get_or, set, refl, sym, ap, ◌∙◌}
use Rattle.std.proofs.Common.{subst, arith}
use mathlib.Core.Option.{none, some}
use lib.ListN.{get_elem?}
use Rattle.atomic_table.specs.Table.{Act, State, Valid, Allows, carried_after, keeps, step, stepped}
use Rattle.rt_values.specs.declared.call.Call.{Call}
use Rattle.rt_values.specs.declared.call.Call.TheVariants.{Take}
use Rattle.rt_values.specs.declared.view.View.{View}
use Rattle.rt_values.specs.Object.{waiting}
use Rattle.rt_values.specs.History.{IsLegal}
use Rattle.rt_values.specs.Inside.Rule.{AllKnow, HasHistory, HistoryStands}
use Rattle.rt_values.specs.Inside.Steps.{Seat, after_take, take_step}
use Rattle.rt_values.proofs.Histories.{LeavesWord-push, ends_push, extends, gives_stay, prefix_on, prefix_self}
use Rattle.rt_values.proofs.Histories.{takes_push}
use Rattle.rt_values.proofs.Views.{know_set, one_set}

module _ (words : List ℕ) (views : List View) (history : List Call) (found id : ℕ) (v : View)
    (st : HistoryStands words views history found) (at : get_elem? views id ≡ some v) (may : v.takes ≡ true) where
  abbrev c : Call
  c = Take (waiting found)

  abbrev more : List Call
  more = history ++ c ∷ []

  abbrev new : View
  new = after_take v more c

  legal : IsLegal more (waiting 0)
  legal = LeavesWord-push _ (waiting found) history c st.legal refl

  known : AllKnow more (set views id new)
  known =
      let mine = st.known id v at in
      know_set more views id new
      record {
        seen = prefix_self more;
        given = λ m. gives_stay history (waiting found) ∙ mine.given m;
        taken = λ m. takes_push history (waiting found) ∙ ap (λ (t : List Call). t ++ c ∷ []) (mine.taken m);
        last = λ m t. ends_push history v.last c (mine.last m t);
      }
      (λ seat u other there.
      let k = st.known seat u there in
      record {
        seen = prefix_on u.seen history (c ∷ []) k.seen;
        given = λ m. gives_stay history (waiting found) ∙ k.given m;
        taken = λ m. absurd (other (st.one_takes seat id u v there at m may));
        last = λ m t. absurd (other (st.one_takes seat id u v there at t may));
      })

  pub took : HistoryStands (set words 0 0) (set views id new) more 0
  took = record {
    one = ap (λ (ws : List ℕ). set ws 0 0) st.one;
    small = omega arith;
    legal = legal;
    known = known;
    one_gives = one_set (λ u. u.gives) views id v new st.one_gives at (λ m. m);
    one_takes = one_set (λ u. u.takes) views id v new st.one_takes at (λ m. m);
  }

-- what a step that takes owes, where this number was found
abbrev Takes : State (Unit {0}) View → ℕ → ℕ → Seat → ℕ → Type 0
Takes s slots id me found =
    (w : View) × (a : Act (Unit {0})) × Valid s.homes me.1 a × HasHistory (stepped s 0 0 id me.1 w a)
    × take_step (step slots 0 0 0 none) me found (w, carried_after me.1 a)

-- a step of a taker, which leaves 0
pub takes_word : (slots id : ℕ) (me : Seat) → me.0.takes ≡ true
    → Allows HasHistory slots id me 0 (λ n. 0) (take_step (step slots 0 0 0 none) me)
takes_word slots id me may s kept homes at fits =
    let history = kept.0 in
    let found = kept.1 in
    let st = kept.2 in
    let c : Call = Take (waiting found) in
    subst (Takes s slots id me) (sym (ap (λ (ws : List ℕ). get_or ws 0 0) st.one)) (
      after_take me.0 (history ++ c ∷ []) c,
      keeps,
      tt,
      (history ++ c ∷ [], 0, took s.words s.views history found id me.0 st at may),
      (history ++ c ∷ [], refl, extends me.0.seen history c (st.known id me.0 at).seen, st.small),
    )

-- A new mailbox meets the rule, and so does one whose sides part or meet.
use Rattle.std.proofs.Common.{◌≡◌, ◌≢◌, ℕ, zero, suc, true, List, [], ◌∷◌, ◌++◌, set, append-nil, refl, sym, ap}
use Rattle.std.proofs.Common.{◌∙◌, subst, ⊎_elim, arith, length}
use Rattle.std.proofs.lemmas.Bool.{false≢true}
use mathlib.Core.Option.{some, some-injective, some-ne-none}
use lib.ListN.{get_elem?}
use Rattle.atomic_table.specs.Table.{Joins, Splits}
use Rattle.atomic_table.proofs.Lists.{at_set, set_else}
use Rattle.rt_values.specs.declared.call.Call.{Call}
use Rattle.rt_values.specs.declared.view.View.{View}
use Rattle.rt_values.specs.Inside.Rule.{AtMostOne, HasHistory, Knows, HistoryStands}
use Rattle.rt_values.specs.Inside.Steps.{newcomer, spent_view, view_of_both, view_of_giver, view_of_taker}
use Rattle.rt_values.proofs.Histories.{prefix_none}
use Rattle.rt_values.proofs.Views.{at_push, know_push, know_set, one_only, one_set}

-- the one seat of a new mailbox is the first
only_first : (seat : ℕ) (u : View) → get_elem? (newcomer ∷ []) seat ≡ some u → seat ≡ 0
only_first zero u at = refl
only_first (suc seat) u at = absurd (some-ne-none u (sym at))

newcomer_knows : (seat : ℕ) (u : View) → get_elem? (newcomer ∷ []) seat ≡ some u → Knows [] u
newcomer_knows zero u at =
    subst (Knows []) (some-injective newcomer u at)
    record {
      seen = prefix_none [];
      given = λ m. refl;
      taken = λ m. refl;
      last = λ m t. record { earlier = []; is = refl };
    }
newcomer_knows (suc seat) u at = absurd (some-ne-none u (sym at))

pub opens : HistoryStands (0 ∷ []) (newcomer ∷ []) [] 0
opens = record {
  one = refl;
  small = omega arith;
  legal = refl;
  known = newcomer_knows;
  one_gives = one_only (λ u. u.gives) (newcomer ∷ []) 0 (λ seat u at m. only_first seat u at);
  one_takes = one_only (λ u. u.takes) (newcomer ∷ []) 0 (λ seat u at m. only_first seat u at);
}

-- the seat of the giver is split off
module _ (words : List ℕ) (views : List View) (history : List Call) (found id : ℕ) (v : View)
    (st : HistoryStands words views history found) (at : get_elem? views id ≡ some v) (gives : v.gives ≡ true) where
  abbrev rest : List View
  rest = set views id (view_of_taker v)

  -- no seat that was there before may give now
  none_gives : (seat : ℕ) (u : View) → get_elem? rest seat ≡ some u → u.gives ≡ true → ⊥
  none_gives seat u there m =
      ⊎_elim (λ t. false≢true (ap (λ (x : View). x.gives) t.1 ∙ m))
      (λ t. t.0 (st.one_gives seat id u v t.1 at m gives)) (at_set views id seat (view_of_taker v) u there)

  parted_takes : AtMostOne (λ u. u.takes) (rest ++ view_of_giver v ∷ [])
  parted_takes i j x y ei ej mx my =
      one_set (λ u. u.takes) views id v (view_of_taker v) st.one_takes at (λ m. m) i j x y (old i x ei mx)
      (old j y ej my) mx my
    where
      old : (k : ℕ) (u : View) → get_elem? (rest ++ view_of_giver v ∷ []) k ≡ some u → u.takes ≡ true
          → get_elem? rest k ≡ some u
      old k u e m =
          ⊎_elim (λ t. t) (λ t. absurd (false≢true (ap (λ (x : View). x.takes) t.1 ∙ m)))
          (at_push rest (view_of_giver v) u k e)

  pub parted : HistoryStands words (rest ++ view_of_giver v ∷ []) history found
  parted =
      let mine = st.known id v at in
      record {
        one = st.one;
        small = st.small;
        legal = st.legal;
        known =
            know_push history rest (view_of_giver v)
            (know_set history views id (view_of_taker v)
            record {
              seen = mine.seen;
              given = λ m. absurd (false≢true m);
              taken = mine.taken;
              last = λ m t. absurd (false≢true m);
            }
            (λ seat u other there. st.known seat u there))
            record {
              seen = mine.seen;
              given = mine.given;
              taken = λ m. absurd (false≢true m);
              last = λ m t. absurd (false≢true t);
            };
        one_gives =
            one_only (λ u. u.gives) (rest ++ view_of_giver v ∷ []) (length rest)
            (λ seat u there m. ⊎_elim (λ t. absurd (none_gives seat u t m)) (λ t. t.0)
            (at_push rest (view_of_giver v) u seat there));
        one_takes = parted_takes;
      }

pub parts : (id : ℕ) (v : View) → v.gives ≡ true → Splits HasHistory id v (view_of_taker v) (view_of_giver v)
parts id v gives s kept at = (kept.0, kept.1, parted s.words s.views kept.0 kept.1 id v kept.2 at gives)

-- the taker's seat takes in the giver's
module _ (words : List ℕ) (views : List View) (history : List Call) (found id : ℕ) (v : View) (other : ℕ) (w : View)
    (st : HistoryStands words views history found) (at : get_elem? views id ≡ some v) (away : other ≢ id)
    (there : get_elem? views other ≡ some w) (gives : w.gives ≡ true) where
  abbrev both : View
  both = view_of_both v w

  abbrev all : List View
  all = set (set views id both) other spent_view

  -- a seat that is not one of the two is as before
  else_as_before : (seat : ℕ) (u : View) → seat ≢ other → get_elem? (set views id both) seat ≡ some u
      → Knows history u
  else_as_before seat u far e =
      ⊎_elim (λ t. subst (Knows history) t.1 record {
        seen = (st.known id v at).seen;
        given = λ m. (st.known other w there).given gives;
        taken = (st.known id v at).taken;
        last = λ m t. record { earlier = history; is = sym (append-nil history) };
      }) (λ t. st.known seat u t.1) (at_set views id seat both u e)

  only_gives : (seat : ℕ) (u : View) → get_elem? all seat ≡ some u → u.gives ≡ true → seat ≡ id
  only_gives seat u e m =
      ⊎_elim (λ t. absurd (false≢true (ap (λ (x : View). x.gives) t.1 ∙ m)))
      (λ t. ⊎_elim (λ z. z.0) (λ z. absurd (t.0 (st.one_gives seat other u w z.1 there m gives)))
      (at_set views id seat both u t.1)) (at_set (set views id both) other seat spent_view u e)

  pub met : HistoryStands words all history found
  met = record {
    one = st.one;
    small = st.small;
    legal = st.legal;
    known =
        know_set history (set views id both) other spent_view
        record {
          seen = prefix_none history;
          given = λ m. absurd (false≢true m);
          taken = λ m. absurd (false≢true m);
          last = λ m t. absurd (false≢true m);
        }
        else_as_before;
    one_gives = one_only (λ u. u.gives) all id only_gives;
    one_takes =
        one_set (λ u. u.takes) (set views id both) other w spent_view
        (one_set (λ u. u.takes) views id v both st.one_takes at (λ m. m))
        (set_else views id other both away ∙ there) (λ m. absurd (false≢true m));
  }

pub meets : (id : ℕ) (v : View) (other : ℕ) (w : View) → w.gives ≡ true
    → Joins HasHistory id v other w (view_of_both v w) spent_view
meets id v other w gives s kept at away there = (
  kept.0,
  kept.1,
  met s.words s.views kept.0 kept.1 id v other w kept.2 at away
      (sym (set_else s.views id other (view_of_both v w) away) ∙ there) gives,
)

-- A call of any line keeps the rule, where its answer and what it leaves are those of the words.
use Rattle.std.proofs.Common.{◌≡◌, ℕ, ◌≢◌, ◌≤◌, List, [], ◌∷◌, ◌++◌, length, set, drop, sym, ap, ◌∙◌, subst, arith}
use Rattle.std.proofs.Common.{append_assoc, length-append}
use mathlib.Core.Option.{some, some-injective}
use mathlib.Core.List.{map-append}
use native.Mathlib.Decide.{ℕ_discrete}
use lib.ListN.{get_elem?}
use Rattle.rt_words.specs.declared.call.Call.{Call}
use Rattle.rt_words.specs.declared.view.View.{View}
use Rattle.rt_words.specs.Object.{IsAnswered, after}
use Rattle.rt_words.specs.History.{Entry, IsLegal, CallsLast, entries}
use Rattle.rt_words.specs.Inside.Rule.{IsRow, padded_words, HistoryStands}
use Rattle.rt_words.specs.Inside.Seats.{IsLive, Seated, HaveSeen, AllKnow}
use Rattle.rt_words.specs.Inside.Steps.{view_after_call}
use Rattle.rt_words.proofs.Lists.{drop_push}
use Rattle.rt_words.proofs.Histories.{entry, LeavesWords-push}
use Rattle.rt_words.proofs.Seeing.{prefix_self, seen_more}
use Rattle.rt_words.proofs.Seats.{know_set, seated_first, seated_other}

-- the view of the first seat is the maker's
pub maker_is : (may words : List ℕ) (views : List View) (history : List Entry) (maker v : View)
    → HistoryStands may words views history maker → get_elem? views 0 ≡ some v → HistoryStands may words views history v
maker_is may words views history maker v st at = subst (λ (x : View). HistoryStands may words views history x)
    (some-injective maker v (sym st.seated.first ∙ at)) st

-- a call of the maker's comes behind the last ones
last_called : (history : List Entry) (maker : View) (c : Call) → maker.since ≤ length maker.calls
    → CallsLast history 255 (drop maker.since maker.calls)
    → CallsLast (history ++ entry 255 c ∷ []) 255 (drop maker.since (maker.calls ++ c ∷ []))
last_called history maker c behind is =
    let since : List Call = drop maker.since maker.calls in
    record {
      earlier = is.earlier;
      is =
          ap (λ (h : List Entry). h ++ entry 255 c ∷ []) is.is
          ∙ append_assoc is.earlier (entries 255 since) (entry 255 c ∷ [])
          ∙ ap (λ (t : List Entry). is.earlier ++ t) (sym (map-append (entry 255) since (c ∷ [])))
          ∙ ap (λ (cs : List Call). is.earlier ++ entries 255 cs) (sym (drop_push maker.since maker.calls c behind));
    }

module _ (may words left : List ℕ) (views : List View) (history : List Entry) (maker : View) (id : ℕ) (v : View)
    (c : Call) (st : HistoryStands may words views history maker) (at : get_elem? views id ≡ some v)
    (live : IsLive id v) (answered : IsAnswered (padded_words words) c)
    (leaves : after (padded_words words) c ≡ padded_words left) (row : IsRow may left) where
  abbrev more : List Entry
  more = history ++ entry v.line c ∷ []

  abbrev new : View
  new = view_after_call v more c

  legal : IsLegal more (padded_words left)
  legal = subst (λ (l : List ℕ). IsLegal more l) leaves
      (LeavesWords-push _ (padded_words words) history (entry v.line c) st.legal answered)

  seen : HaveSeen more (set views id new)
  seen = seen_more history (entry v.line c ∷ []) views id new st.seen (prefix_self more)

  same_may : AllKnow may (set views id new)
  same_may = know_set may views id new st.same_may (st.same_may id v at)

  of_maker : v.line ≡ 255 → id ≡ 0 → HistoryStands may left (set views id new) more new
  of_maker is first =
      let mine = maker_is may words views history maker v st (ap (get_elem? views) (sym first) ∙ at) in
      record {
        row = row;
        legal = legal;
        seated = subst (λ (x : ℕ × ℕ). Seated (history ++ entry x.0 c ∷ []) (set views x.1 new) new)
            (λ i. (sym is i, sym first i)) (seated_first history views v more c mine.seated);
        seen = seen;
        same_may = same_may;
        behind = omega (arith, mine.behind, length-append v.calls (c ∷ []));
        last = λ all.
            subst (λ (n : ℕ). CallsLast (history ++ entry n c ∷ []) 255 (drop v.since (v.calls ++ c ∷ []))) (sym is)
            (last_called history v c mine.behind (mine.last all));
      }

  of_other : v.line ≢ 255 → HistoryStands may left (set views id new) more maker
  of_other other =
      let mine = st.seated.lines id v at other in
      record {
        row = row;
        legal = legal;
        seated = seated_other history views maker id v more c st.seated at other;
        seen = seen;
        same_may = same_may;
        behind = st.behind;
        last = λ all. absurd (mine.ungathered (all v.line mine.made));
      }

  pub called : (x : View) × HistoryStands may left (set views id new) more x
  called = by (ℕ_discrete v.line 255)
    where
      by : Dec (v.line ≡ 255) → (x : View) × HistoryStands may left (set views id new) more x
      by (yes is) = (new, of_maker is (live is))
      by (no ne) = (maker, of_other ne)

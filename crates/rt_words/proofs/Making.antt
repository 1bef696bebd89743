-- Splits, loads and joins keep the rule.
use Rattle.std.proofs.Common.{◌≡◌, ℕ, ◌≢◌, List, ◌++◌, length, set, Contains, refl, sym, ap, ◌∙◌, subst, arith}
use Rattle.std.proofs.Common.{drop, append-nil}
use Rattle.std.proofs.lemmas.List.{set-get_or}
use mathlib.Core.Option.{none}
use Rattle.atomic_table.specs.Table.{step, keeps, Allows, Splits, Joins}
use Rattle.rt_words.specs.declared.call.Call.{Call}
use Rattle.rt_words.specs.declared.view.View.{View}
use Rattle.rt_words.specs.History.{Entry, CallsLast, entries}
use Rattle.rt_words.specs.Inside.Rule.{HasHistory}
use Rattle.rt_words.specs.Inside.Seats.{Seat}
use Rattle.rt_words.specs.Inside.Steps.{view_after_split, view_of_new, view_after_join, spent_view, look_step}
use Rattle.rt_words.proofs.Lists.{drop_whole}
use Rattle.rt_words.proofs.Seats.{know_set, know_push, maker_knows, gathered_made, seated_split, seated_join}
use Rattle.rt_words.proofs.Seats.{seated_look}
use Rattle.rt_words.proofs.Seeing.{prefix_self, prefix_none, seen_set, seen_push}
use Rattle.rt_words.proofs.Calling.{maker_is}

-- where no call came since, nothing comes last
still_last : (history : List Entry) (maker : View) → CallsLast history 255 (drop (length maker.calls) maker.calls)
still_last history maker = record {
  earlier = history;
  is =
      sym (append-nil history)
      ∙ ap (λ (cs : List Call). history ++ entries 255 cs) (sym (drop_whole maker.calls));
}

splits_first : (may : List ℕ) (number : ℕ) (v : View) → number ≢ 255 → ¬ Contains v.made number
    → Splits (HasHistory may) 0 v (view_after_split number v) (view_of_new number v)
splits_first may number v other new s kept at =
    let st = maker_is may s.words s.views kept.0 kept.1 v kept.2 at in
    let knows = maker_knows may kept.0 s.views v st.seated st.same_may in
    let w : View = view_after_split number v in (
      kept.0,
      w,
      record {
        row = st.row;
        legal = st.legal;
        seated = seated_split kept.0 s.views v number st.seated other new;
        seen =
            seen_push kept.0 (set s.views 0 w) (view_of_new number v)
            (seen_set kept.0 s.views 0 w st.seen (st.seen 0 v at)) (st.seen 0 v at);
        same_may =
            know_push may (set s.views 0 w) (view_of_new number v)
            (know_set may s.views 0 w st.same_may (λ lives. knows)) knows;
        behind = omega arith;
        last = λ all. still_last kept.0 v;
      },
    )

-- the first line makes another, under a number that was not made
pub splits : (may : List ℕ) (id number : ℕ) (v : View) → id ≡ 0 → number ≢ 255 → ¬ Contains v.made number
    → Splits (HasHistory may) id v (view_after_split number v) (view_of_new number v)
splits may id number v is other new =
    subst (λ (z : ℕ). Splits (HasHistory may) z v (view_after_split number v) (view_of_new number v)) (sym is)
    (splits_first may number v other new)

joins_first : (may : List ℕ) (v : View) (from : ℕ) (w : View) → w.line ≢ 255
    → Joins (HasHistory may) 0 v from w (view_after_join v w) spent_view
joins_first may v from w other s kept at away found =
    let st = maker_is may s.words s.views kept.0 kept.1 v kept.2 at in
    let new : View = view_after_join v w in (
      kept.0,
      new,
      record {
        row = st.row;
        legal = st.legal;
        seated = seated_join kept.0 s.views v from w st.seated away found other;
        seen =
            seen_set kept.0 (set s.views 0 new) from spent_view (seen_set kept.0 s.views 0 new st.seen (st.seen 0 v at))
            (prefix_none kept.0);
        same_may =
            know_set may (set s.views 0 new) from spent_view
            (know_set may s.views 0 new st.same_may (λ lives. maker_knows may kept.0 s.views v st.seated st.same_may))
            (λ lives. absurd (away (lives refl)));
        behind = omega arith;
        last = λ all. still_last kept.0 v;
      },
    )

-- another line's seat is joined into the first one
pub joins : (may : List ℕ) (id : ℕ) (v : View) (from : ℕ) (w : View) → id ≡ 0 → w.line ≢ 255
    → Joins (HasHistory may) id v from w (view_after_join v w) spent_view
joins may id v from w is other = subst (λ (z : ℕ). Joins (HasHistory may) z v from w (view_after_join v w) spent_view)
    (sym is) (joins_first may v from w other)

looks_first : (may : List ℕ) (slots : ℕ) (me : Seat) → Allows (HasHistory may) slots 0 me 0 (λ n. n)
    (look_step (step slots 0 0 0 none) me)
looks_first may slots me s kept homes at small =
    let st = maker_is may s.words s.views kept.0 kept.1 me.0 kept.2 at in
    let w : View = record me.0 { since = length me.0.calls; seen = kept.0 } in (
      w,
      keeps,
      tt,
      subst (λ (ws : List ℕ). HasHistory may record { words = ws; homes = s.homes; views = set s.views 0 w })
          (sym (set-get_or s.words 0 0)) (
            kept.0,
            w,
            record {
              row = st.row;
              legal = st.legal;
              seated = seated_look kept.0 s.views me.0 kept.0 st.seated;
              seen = seen_set kept.0 s.views 0 w st.seen (prefix_self kept.0);
              same_may = know_set may s.views 0 w st.same_may
                  (λ lives. maker_knows may kept.0 s.views me.0 st.seated st.same_may);
              behind = omega arith;
              last = λ all. still_last kept.0 me.0;
            },
          ),
      (
        kept.0,
        refl,
        st.seen 0 me.0 at,
        st.seated.once,
        λ number h.
            gathered_made kept.0 s.views me.0 number st.seated h,
      ),
    )

-- the first seat looks
pub looks : (may : List ℕ) (slots id : ℕ) (me : Seat) → id ≡ 0 → Allows (HasHistory may) slots id me 0 (λ n. n)
    (look_step (step slots 0 0 0 none) me)
looks may slots id me is = subst (λ (z : ℕ). Allows (HasHistory may) slots z me 0 (λ n. n)
    (look_step (step slots 0 0 0 none) me)) (sym is) (looks_first may slots me)

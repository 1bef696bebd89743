-- Each kind of step keeps what ties the history to the views.
use Rattle.std.proofs.Common.{◌≡◌, ℕ, ◌≢◌, List, [], ◌∷◌, ◌++◌, length, set, Contains, refl, sym, ap, ◌∙◌, subst}
use Rattle.std.proofs.Common.{⊎_elim}
use mathlib.Core.Option.{some, some-injective}
use lib.ListN.{get_elem?}
use Rattle.atomic_table.proofs.Lists.{at_set, set_here, set_else, at_longer}
use Rattle.rt_words.specs.declared.call.Call.{Call}
use Rattle.rt_words.specs.declared.view.Part.{Part}
use Rattle.rt_words.specs.declared.view.View.{View}
use Rattle.rt_words.specs.History.{Entry, part}
use Rattle.rt_words.specs.Lines.{numbers}
use Rattle.rt_words.specs.Inside.Seats.{IsLive, InUse, Gathered, Seated, AllKnow}
use Rattle.rt_words.specs.Inside.Steps.{view_after_call, view_after_split, view_of_new, view_after_join, spent_view}
use Rattle.rt_words.proofs.Lists.{in_head, in_tail, in_cases, in_map, of_map, at_push, at_below}
use Rattle.rt_words.proofs.Histories.{entry, part-push_same, part-push_other}

abbrev Lines : List Entry → List View → View → Type 0
Lines history views maker =
    (seat : ℕ) (v : View) → get_elem? views seat ≡ some v → v.line ≢ 255 → InUse history maker v

abbrev Apart : List View → Type 0
Apart views = (i j : ℕ) (v w : View) → get_elem? views i ≡ some v → get_elem? views j ≡ some w → v.line ≢ 255
    → v.line ≡ w.line → i ≡ j

-- the view of one seat changes, and the others speak as before
lines_set : (history : List Entry) (views : List View) (maker : View) (id : ℕ) (w : View)
    → (w.line ≢ 255 → InUse history maker w)
    → ((seat : ℕ) (u : View) → seat ≢ id → get_elem? views seat ≡ some u → u.line ≢ 255 → InUse history maker u)
    → Lines history (set views id w) maker
lines_set history views maker id w here there seat u at other =
    ⊎_elim (λ t. subst (λ (x : View). InUse history maker x) t.1
    (here (λ e. other (sym (ap (λ (x : View). x.line) t.1) ∙ e))))
    (λ t. there seat u t.0 t.1 other) (at_set views id seat w u at)

-- each view after the change has the number of the view before
back : (views : List View) (id : ℕ) (v w : View) → get_elem? views id ≡ some v → w.line ≡ v.line
    → (j : ℕ) (u : View) → get_elem? (set views id w) j ≡ some u
    → (x : View) × (get_elem? views j ≡ some x) × (x.line ≡ u.line)
back views id v w at same j u e =
    ⊎_elim (λ t. (v, ap (get_elem? views) t.0 ∙ at, sym same ∙ ap (λ (x : View). x.line) t.1)) (λ t. (u, t.1, refl))
    (at_set views id j w u e)

apart_set : (views : List View) (id : ℕ) (v w : View) → Apart views → get_elem? views id ≡ some v → w.line ≡ v.line
    → Apart (set views id w)
apart_set views id v w apart at same i j x y ei ej other e =
    let a = back views id v w at same i x ei in
    let b = back views id v w at same j y ej in
    apart i j a.0 b.0 a.1 b.1 (λ f. other (sym a.2 ∙ f)) (a.2 ∙ e ∙ sym b.2)

-- a seat knows as much as before
pub know_set : (may : List ℕ) (views : List View) (id : ℕ) (w : View) → AllKnow may views
    → (IsLive id w → w.may ≡ may) → AllKnow may (set views id w)
know_set may views id w all here seat u at lives =
    ⊎_elim (λ t. sym (ap (λ (x : View). x.may) t.1)
    ∙ here (λ e. sym t.0 ∙ lives (sym (ap (λ (x : View). x.line) t.1) ∙ e)))
    (λ t. all seat u t.1 lives) (at_set views id seat w u at)

pub know_push : (may : List ℕ) (views : List View) (w : View) → AllKnow may views → w.may ≡ may
    → AllKnow may (views ++ w ∷ [])
know_push may views w all here seat u at lives = ⊎_elim (λ old. all seat u old lives)
    (λ t. sym (ap (λ (x : View). x.may) t.1) ∙ here) (at_push views w u seat at)

-- the maker knows it
pub maker_knows : (may : List ℕ) (history : List Entry) (views : List View) (maker : View) → Seated history views maker
    → AllKnow may views → maker.may ≡ may
maker_knows may history views maker is all = all 0 maker is.first (λ e. refl)

-- the seat of another line is not the first
not_first : (history : List Entry) (views : List View) (maker : View) (id : ℕ) (v : View) → Seated history views maker
    → get_elem? views id ≡ some v → v.line ≢ 255 → id ≢ 0
not_first history views maker id v is at other zero =
    let same = some-injective maker v (sym is.first ∙ ap (get_elem? views) (sym zero) ∙ at) in
    other (sym (ap (λ (x : View). x.line) same) ∙ is.number)

-- the maker has called or looked, and the calls of each other number stay
maker_set : (history more : List Entry) (views : List View) (maker : View) (calls : List Call) (since : ℕ)
    (seen : List Entry) → Seated history views maker → part more 255 ≡ calls
    → ((number : ℕ) → number ≢ 255 → part more number ≡ part history number)
    → (
    let w : View = record maker { calls = calls; since = since; seen = seen } in
    Seated more (set views 0 w) w)
maker_set history more views maker calls since seen is own others =
    let w : View = record maker { calls = calls; since = since; seen = seen } in
    record {
      first = set_here views 0 w (at_below views 0 maker is.first);
      number = is.number;
      own = own;
      lines = lines_set more views w 0 w (λ ne. absurd (ne is.number)) (λ seat u ne at other.
          let k = is.lines seat u at other in
          record {
            same_calls = others u.line other ∙ k.same_calls;
            made = k.made;
            ungathered = k.ungathered;
          });
      apart = apart_set views 0 maker w is.apart is.first refl;
      parts = λ p h. let k = is.parts p h in record {
        same_calls = others p.line k.other ∙ k.same_calls;
        made = k.made;
        other = k.other;
      };
      once = is.once;
      unmade = λ number ne out. others number ne ∙ is.unmade number ne out;
    }

-- the maker has one call more
pub seated_first : (history : List Entry) (views : List View) (maker : View) (seen : List Entry) (c : Call)
    → Seated history views maker
    → Seated (history ++ entry 255 c ∷ []) (set views 0 (view_after_call maker seen c)) (view_after_call maker seen c)
seated_first history views maker seen c is =
    maker_set history (history ++ entry 255 c ∷ []) views maker (maker.calls ++ c ∷ []) maker.since seen is
    (part-push_same history 255 c ∙ ap (λ (t : List Call). t ++ c ∷ []) is.own)
    (λ number ne. part-push_other history 255 number c (λ e. ne (sym e)))

-- the maker looks
pub seated_look : (history : List Entry) (views : List View) (maker : View) (seen : List Entry)
    → Seated history views maker
    → (
    let w : View = record maker { since = length maker.calls; seen = seen } in
    Seated history (set views 0 w) w)
seated_look history views maker seen is =
    maker_set history history views maker maker.calls (length maker.calls) seen is is.own (λ number ne. refl)

-- another line has one call more
pub seated_other : (history : List Entry) (views : List View) (maker : View) (id : ℕ) (v : View) (seen : List Entry)
    (c : Call) → Seated history views maker → get_elem? views id ≡ some v → v.line ≢ 255
    → Seated (history ++ entry v.line c ∷ []) (set views id (view_after_call v seen c)) maker
seated_other history views maker id v seen c is at other =
    let w : View = view_after_call v seen c in
    let more = history ++ entry v.line c ∷ [] in
    let mine = is.lines id v at other in
    let away = not_first history views maker id v is at other in
    record {
      first = set_else views id 0 w (λ e. away (sym e)) ∙ is.first;
      number = is.number;
      own = part-push_other history v.line 255 c other ∙ is.own;
      lines = lines_set more views maker id w
          (λ ne. record {
            same_calls = part-push_same history v.line c ∙ ap (λ (t : List Call). t ++ c ∷ []) mine.same_calls;
            made = mine.made;
            ungathered = mine.ungathered;
          })
          (λ seat u ne at' e.
          let k = is.lines seat u at' e in
          record {
            same_calls = part-push_other history v.line u.line c (λ f. ne (is.apart seat id u v at' at e (sym f)))
                ∙ k.same_calls;
            made = k.made;
            ungathered = k.ungathered;
          });
      apart = apart_set views id v w is.apart at refl;
      parts = λ p h.
          let k = is.parts p h in
          record {
            same_calls = part-push_other history v.line p.line c
                (λ e. mine.ungathered (subst (λ (n : ℕ). Contains (numbers maker.gathered) n) (sym e)
                (in_map (λ (q : Part). q.line) p maker.gathered h))) ∙ k.same_calls;
            made = k.made;
            other = k.other;
          };
      once = is.once;
      unmade = λ number ne out. part-push_other history v.line number c
          (λ e. out (subst (λ (n : ℕ). Contains maker.made n) e mine.made)) ∙ is.unmade number ne out;
    }

-- the first seat made each line that it gathered
pub gathered_made : (history : List Entry) (views : List View) (maker : View) (number : ℕ) → Seated history views maker
    → Contains (numbers maker.gathered) number → Contains maker.made number
gathered_made history views maker number is h = let p = of_map (λ (q : Part). q.line) number maker.gathered h in
    subst (λ (m : ℕ). Contains maker.made m) p.1.1 (is.parts p.0 p.1.0).made

-- the maker makes a line
pub seated_split : (history : List Entry) (views : List View) (maker : View) (number : ℕ) → Seated history views maker
    → number ≢ 255 → ¬ Contains maker.made number
    → Seated history (set views 0 (view_after_split number maker) ++ view_of_new number maker ∷ [])
    (view_after_split number maker)
seated_split history views maker number is other new =
    let w : View = view_after_split number maker in
    let line : View = view_of_new number maker in
    let rest : List View = set views 0 w in
    let apart : Apart rest = apart_set views 0 maker w is.apart is.first refl in
    let old : (seat : ℕ) (u : View) → get_elem? rest seat ≡ some u → u.line ≢ 255 → InUse history maker u =
    λ seat u at e.
    ⊎_elim (λ t. absurd (e (sym (ap (λ (v : View). v.line) t.1) ∙ is.number))) (λ t. is.lines seat u t.1 e)
    (at_set views 0 seat w u at) in
    let fresh : (seat : ℕ) (u : View) → get_elem? rest seat ≡ some u → number ≢ u.line = λ seat u at e.
    new (subst (λ (m : ℕ). Contains maker.made m) (sym e) (old seat u at (λ f. other (e ∙ f))).made) in
    record {
      first = at_longer rest (line ∷ []) 0 w (set_here views 0 w (at_below views 0 maker is.first));
      number = is.number;
      own = is.own;
      lines = λ seat u at e. ⊎_elim
          (λ a. let k = old seat u a e in record {
            same_calls = k.same_calls;
            made = in_tail number u.line maker.made k.made;
            ungathered = k.ungathered;
          })
          (λ a. subst (λ (x : View). InUse history w x) a.1 record {
            same_calls = is.unmade number other new;
            made = in_head number maker.made;
            ungathered = λ h. new (gathered_made history views maker number is h);
          })
          (at_push rest line u seat at);
      apart = λ i j x y ei ej ne e.
          ⊎_elim
          (λ a. ⊎_elim (λ b. apart i j x y a b ne e)
          (λ b. absurd (fresh i x a (ap (λ (v : View). v.line) b.1 ∙ sym e)))
          (at_push rest line y j ej))
          (λ a. ⊎_elim (λ b. absurd (fresh j y b (ap (λ (v : View). v.line) a.1 ∙ e))) (λ b. a.0 ∙ sym b.0)
          (at_push rest line y j ej))
          (at_push rest line x i ei);
      parts = λ p h. let k = is.parts p h in record {
        same_calls = k.same_calls;
        made = in_tail number p.line maker.made k.made;
        other = k.other;
      };
      once = is.once;
      unmade = λ n ne out. is.unmade n ne (λ h. out (in_tail number n maker.made h));
    }

-- the maker takes in another line
pub seated_join : (history : List Entry) (views : List View) (maker : View) (from : ℕ) (v : View)
    → Seated history views maker → from ≢ 0 → get_elem? (set views 0 (view_after_join maker v)) from ≡ some v
    → v.line ≢ 255
    → Seated history (set (set views 0 (view_after_join maker v)) from spent_view) (view_after_join maker v)
seated_join history views maker from v is away found other =
    let w : View = view_after_join maker v in
    let at : get_elem? views from ≡ some v = sym (set_else views 0 from w away) ∙ found in
    let mine = is.lines from v at other in
    let p : Part = record { line = v.line; calls = v.calls } in
    let old : (seat : ℕ) (u : View) → get_elem? (set (set views 0 w) from spent_view) seat ≡ some u → u.line ≢ 255
    → (get_elem? views seat ≡ some u) × (seat ≢ from) =
    λ seat u at' e. ⊎_elim
    (λ t. absurd (e (sym (ap (λ (x : View). x.line) t.1))))
    (λ t. ⊎_elim (λ z. absurd (e (sym (ap (λ (x : View). x.line) z.1) ∙ is.number))) (λ z. (z.1, t.0))
    (at_set views 0 seat w u t.1))
    (at_set (set views 0 w) from seat spent_view u at') in
    record {
      first = set_else (set views 0 w) from 0 spent_view (λ e. away (sym e))
          ∙ set_here views 0 w (at_below views 0 maker is.first);
      number = is.number;
      own = is.own;
      lines = λ seat u at' e.
          let o = old seat u at' e in
          let k = is.lines seat u o.0 e in
          record {
            same_calls = k.same_calls;
            made = k.made;
            ungathered = λ h. ⊎_elim (λ f. o.1 (is.apart seat from u v o.0 at e (sym f))) k.ungathered
                (in_cases v.line u.line (numbers maker.gathered) h);
          };
      apart = λ i j x y ei ej ne e.
          is.apart i j x y (old i x ei ne).0 (old j y ej (λ f. ne (e ∙ f))).0 ne e;
      parts = λ q h. ⊎_elim
          (λ e. subst (λ (r : Part). Gathered history w r) e record
          { same_calls = mine.same_calls; made = mine.made; other = other })
          (λ t. let k = is.parts q t in record { same_calls = k.same_calls; made = k.made; other = k.other })
          (in_cases p q maker.gathered h);
      once = (mine.ungathered, is.once);
      unmade = is.unmade;
    }

-- What is kept of those who enter sections, with one more point.
use Rattle.std.proofs.Common.{◌≡◌, ◌≢◌, ◌⊎◌, ◌↔◌, ◌&&◌, ◌<◌, Bool, true, false, not, IsTrue, ℕ, max, List, []}
use Rattle.std.proofs.Common.{◌∷◌, ◌++◌}
use Rattle.std.proofs.Common.{map, slice_get, Option, Some, None, if◌then◌else◌, refl, sym, ap, subst, ◌∙◌, inl, inr}
use Rattle.std.proofs.Common.{⊎_elim, arith}
use Rattle.std.specs.List.{AllByRecursion, list_any}
use Rattle.std.proofs.lemmas.Bool.{cases_lt}
use Rattle.std.proofs.lemmas.List.Elements.{Contains-append_left, Contains-push_cases, Contains-push}
use Rattle.rt_lemmas.proofs.Bools.{or_left, both_of_none, not_true}
use Rattle.rt_lemmas.proofs.Membership.{all_append, any_left, any_right}
use Rattle.rt_ids.specs.Choice.{IsIn}
use Rattle.rt_actions.specs.Location.{is_same_section}
use Rattle.rt_actions.proofs.Sections.{one_section}
use Rattle.rt_ids.specs.declared.ids.Section.{Section}
use Rattle.rt_code.specs.Image.{Image}
use Rattle.rt_code.specs.declared.instr.Instr.{Instr}
use Rattle.rt_code.specs.declared.instr.Note.{Note}
use Rattle.rt_points.specs.Point.{Point, sections}
use Rattle.rt_points.specs.declared.point.Owner.TheVariants.{Starting, Thread, Handling}
use Rattle.rt_points.specs.ExecutionPriority.{owner_value}
use Rattle.rt_judge.specs.Inside.Kept.{EntersBy, FreeAt}
use Rattle.rt_points.specs.Rules.{priority_after}
use Rattle.rt_judge.specs.Inside.Entering.{Enterer, IsGreatestValue, IsLeastOrNone, IsEntering}
use Rattle.rt_judge.specs.Inside.Entering.{TellsOfSections, least, with_entering, row_with_entering, rows_with_entering}
use Rattle.rt_judge.specs.Inside.Entering.{EntersNone, AreApart}
use Rattle.rt_judge.specs.Inside.Values.{outside_value}
use Rattle.rt_judge.specs.declared.entering.Entering.{Entering}
use Rattle.rt_judge.specs.declared.entering.Sections.{Sections}
use Rattle.rt_judge.proofs.EnteringRows.{added_here, added_apart, any_added, apart_with}
use Rattle.rt_judge.proofs.Lines.{instr_in, section_in, told_line, note_in, line_of}
use Rattle.rt_judge.proofs.Seen.{tells_more, any_inside, inside_any, all_front}
use Rattle.rt_code.proofs.Mine.{same_section}

is_not : (b : Bool) → ¬ (b ≡ true) → not b ≡ true
is_not true h = absurd (h refl)
is_not false h = refl

-- at one point one line stands
module _ (img : Image) (p : Point) (i j : Instr) (x y : Section) (stands : EntersBy img p i x)
    (other : EntersBy img p j y) where
  same_line : line_of i x ≡ line_of j y
  same_line =
      let was : slice_get img.code p.address ≡ line_of i x = stands in
      let is : slice_get img.code p.address ≡ line_of j y = other in
      sym was ∙ is

  one_instr : i ≡ j
  one_instr = ap (instr_in i) same_line

  entered_section : x ≡ y
  entered_section = ap (section_in x) same_line

-- the value of the next who enters, `init` aside
abbrev pub IsValueOf : Image → Point → Option ℕ → Type 0
IsValueOf img p None = p.owner ≡ Starting
IsValueOf img p (Some value) = (p.owner ≢ Starting) × (owner_value img p.owner ≡ value)

pub value_of_next : (img : Image) (p : Point) → IsValueOf img p (outside_value img p.owner)
value_of_next img p = elim p.owner as (λ o. p.owner ≡ o → IsValueOf img p (outside_value img o)) [
  | Starting ↦ λ e. e
  | Thread ↦ λ e. ((λ is. let both : Thread ≡ Starting = sym e ∙ is in cc), ap (owner_value img) e)
  | Handling index ↦ λ e. ((λ is. let both : Handling index ≡ Starting = sym e ∙ is in cc), ap (owner_value img) e)
] refl

seen_before : (img : Image) (ps : List Point) (p : Point) (y : Section) (q : Point) (j : Instr) → Enterer img ps y q j
    → Enterer img (ps ++ p ∷ []) y q j
seen_before img ps p y q j e = record { seen = Contains-append_left ps (p ∷ []) q e.seen; enters = e.enters }

module _ (img : Image) (ps : List Point) (p : Point) (i : Instr) (x : Section) (stands : EntersBy img p i x) where
  -- the next point enters this section
  here : Enterer img (ps ++ p ∷ []) x p i
  here = record { seen = Contains-push ps p; enters = stands }

  -- who enters is one of before, or the next
  by_cases : {G : Type 0} (y : Section) (q : Point) (j : Instr) → Enterer img (ps ++ p ∷ []) y q j
      → (Enterer img ps y q j → G) → (p ≡ q → i ≡ j → x ≡ y → G) → G
  by_cases y q j e before now = ⊎_elim
      (λ seen. before (record { seen = seen; enters = e.enters }))
      (λ same. let enters : EntersBy img p j y = subst (λ r. EntersBy img r j y) (sym same) e.enters in
      now same (one_instr img p i j x y stands enters) (entered_section img p i j x y stands enters))
      (Contains-push_cases ps p q e.seen)

  abbrev priority_now : ℕ
  priority_now = priority_after img p i x

  priority_same : (q : Point) (j : Instr) → p ≡ q → i ≡ j → priority_after img q j x ≡ priority_now
  priority_same q j same one = sym (ap (λ r. priority_after img r i x) same ∙ ap (λ k. priority_after img q k x) one)

  greatest : (old : ℕ) → IsGreatestValue img ps x old → IsGreatestValue img (ps ++ p ∷ []) x
      (max old priority_now)
  greatest old g = ⊎_elim
      (λ lower. record {
        all = λ q j e. by_cases x q j e
            (λ before. let le = g.all q j before in omega (arith, le, lower))
            (λ same one _. let is = priority_same q j same one in omega (arith, is, lower));
        point = p;
        instr = i;
        enterer = here;
        is = at_most old lower;
      })
      (λ higher. record {
        all = λ q j e. by_cases x q j e
            (λ before. let le = g.all q j before in omega (arith, le, higher))
            (λ same one _. let is = priority_same q j same one in omega (arith, is, higher));
        point = g.point;
        instr = g.instr;
        enterer = seen_before img ps p x g.point g.instr g.enterer;
        is = let e = g.is in omega (arith, e, higher);
      })
      (cases_lt old priority_now)
    where
      at_most : (old : ℕ) → old < priority_now → priority_after img p i x ≡ max old priority_now
      at_most old lower = omega (arith, lower)

  value_same : (q : Point) (value : ℕ) → p ≡ q → owner_value img p.owner ≡ value → owner_value img q.owner ≡ value
  value_same q value same is = ap (λ (r : Point). owner_value img r.owner) (sym same) ∙ is

  least_value : (old new : Option ℕ) → IsLeastOrNone img ps x old → IsValueOf img p new
      → IsLeastOrNone img (ps ++ p ∷ []) x (least old new)
  least_value None None none value = λ q j e. by_cases x q j e (none q j)
      (λ same _ _. subst (λ (r : Point). r.owner ≡ Starting) same value)
  least_value None (Some v) none value = record {
    all = λ q j e outside. by_cases x q j e
        (λ before. absurd (outside (none q j before)))
        (λ same _ _. let is = value_same q v same value.1 in omega (arith, is));
    point = p;
    instr = i;
    enterer = here;
    outside = value.0;
    is = value.1;
  }
  least_value (Some u) None l value = record {
    all = λ q j e outside. by_cases x q j e
        (λ before. l.all q j before outside)
        (λ same _ _. absurd (outside (subst (λ (r : Point). r.owner ≡ Starting) same value)));
    point = l.point;
    instr = l.instr;
    enterer = seen_before img ps p x l.point l.instr l.enterer;
    outside = l.outside;
    is = l.is;
  }
  least_value (Some u) (Some v) l value = ⊎_elim
      (λ lower. record {
        all = λ q j e outside. by_cases x q j e
            (λ before. let le = l.all q j before outside in omega (arith, le, lower))
            (λ same _ _. let is = value_same q v same value.1 in omega (arith, is, lower));
        point = l.point;
        instr = l.instr;
        enterer = seen_before img ps p x l.point l.instr l.enterer;
        outside = l.outside;
        is = let e = l.is in omega (arith, e, lower);
      })
      (λ higher. record {
        all = λ q j e outside. by_cases x q j e
            (λ before. let le = l.all q j before outside in omega (arith, le, higher))
            (λ same _ _. let is = value_same q v same value.1 in omega (arith, is, higher));
        point = p;
        instr = i;
        enterer = here;
        outside = value.0;
        is = let e = value.1 in omega (arith, e, higher);
      })
      (cases_lt u v)

  -- a row with the next who enters
  module _ (e : Entering) (of : e.section ≡ x) (weakest : e.weakest ≡ priority_after img p i x)
      (value : IsValueOf img p e.value) where
    first_row : ((q : Point) (j : Instr) → ¬ Enterer img ps x q j) → IsEntering img (ps ++ p ∷ []) x e
    first_row none = record {
      weakest = record {
        all = λ q j enters. by_cases x q j enters
            (λ before. absurd (none q j before))
            (λ same one _. let is = priority_same q j same one in let now = now_is in omega (arith, is, now, weakest));
        point = p;
        instr = i;
        enterer = here;
        is = sym weakest;
      };
      value = least_value None e.value (λ q j before. absurd (none q j before)) value;
    }
      where
        now_is : priority_now ≡ priority_after img p i x
        now_is = refl

    other_row : (row : Entering) → row.section ≢ x → IsEntering img ps row.section row
        → IsEntering img (ps ++ p ∷ []) row.section row
    other_row row apart is = record {
      weakest = record {
        all = λ q j enters. by_cases row.section q j enters (is.weakest.all q j)
            (λ _ _ same. absurd (apart (sym same)));
        point = is.weakest.point;
        instr = is.weakest.instr;
        enterer = seen_before img ps p row.section is.weakest.point is.weakest.instr is.weakest.enterer;
        is = is.weakest.is;
      };
      value = other_value row.value is.value;
    }
      where
        other_value : (v : Option ℕ) → IsLeastOrNone img ps row.section v
            → IsLeastOrNone img (ps ++ p ∷ []) row.section v
        other_value None none = λ q j enters. by_cases row.section q j enters (none q j)
            (λ _ _ same. absurd (apart (sym same)))
        other_value (Some v) l = record {
          all = λ q j enters outside. by_cases row.section q j enters (λ before. l.all q j before outside)
              (λ _ _ same. absurd (apart (sym same)));
          point = l.point;
          instr = l.instr;
          enterer = seen_before img ps p row.section l.point l.instr l.enterer;
          outside = l.outside;
          is = l.is;
        }

    same_row : (row : Entering) → row.section ≡ x → IsEntering img ps row.section row
        → IsEntering img (ps ++ p ∷ []) row.section (with_entering e row)
    same_row row same is =
        let old = subst (λ y. IsEntering img ps y row) same is in
        subst (λ y. IsEntering img (ps ++ p ∷ []) y (with_entering e row)) (sym same)
        (record {
          weakest = subst (λ n. IsGreatestValue img (ps ++ p ∷ []) x (max row.weakest n))
              (sym (weakest ∙ sym now_is))
              (greatest row.weakest old.weakest);
          value = least_value row.value e.value old.value value;
        })
      where
        now_is : priority_now ≡ priority_after img p i x
        now_is = refl

    -- the rows, each of its own section
    step_row : (row : Entering) → IsEntering img ps row.section row
        → IsEntering img (ps ++ p ∷ []) (row_with_entering e row).section (row_with_entering e row)
    step_row row is = ⊎_elim
        (λ same. subst (λ r. IsEntering img (ps ++ p ∷ []) r.section r) (sym (added_here e row same))
        (same_row row (one_section row.section e.section same ∙ of) is))
        (λ apart. subst (λ r. IsEntering img (ps ++ p ∷ []) r.section r) (sym (added_apart e row apart))
        (other_row row (λ same. absurd (let both : is_same_section row.section e.section ≡ true =
        subst (λ y. is_same_section row.section y ≡ true) (same ∙ sym of) (same_section row.section) in cc)) is))
        (either (is_same_section row.section e.section))
      where
        either : (b : Bool) → (b ≡ true) ⊎ (b ≡ false)
        either true = inl refl
        either false = inr refl

    rows_on : (rows : List Entering) → AllByRecursion (λ row. IsEntering img ps row.section row) rows
        → AllByRecursion (λ row. IsEntering img (ps ++ p ∷ []) row.section row) (map (row_with_entering e) rows)
    rows_on [] all = tt
    rows_on (row ∷ rows) all = (step_row row all.0, rows_on rows all.1)

    rows_apart : (rows : List Entering) → list_any (λ row. is_same_section row.section e.section) rows ≡ false
        → AllByRecursion (λ row. IsEntering img ps row.section row) rows
        → AllByRecursion (λ row. IsEntering img (ps ++ p ∷ []) row.section row) rows
    rows_apart [] none all = tt
    rows_apart (row ∷ rows) none all =
        let parts = both_of_none (is_same_section row.section e.section)
        (list_any (λ r. is_same_section r.section e.section) rows) none in (
          other_row row (λ same. absurd (let yes : is_same_section row.section e.section ≡ true =
              subst (λ y. is_same_section row.section y ≡ true) (same ∙ sym of) (same_section row.section) in
              let no = parts.0 in cc)) all.0,
          rows_apart rows parts.1 all.1,
        )

    -- what the rows have, with the next
    module _ (s t : Sections) (tells : TellsOfSections img ps s)
        (free : t.free ≡ (s.free && not (list_any (λ o. is_same_section o.section x) p.inside)))
        (rows : t.rows.items ≡ rows_with_entering e s.rows.items) where
      free_here : IsTrue (not (list_any (λ o. is_same_section o.section x) p.inside)) ↔ FreeAt img p
      free_here = (
        λ closed j y enters inside.
            let same = entered_section img p i j x y stands enters in
            let yes = inside_any x p.inside (subst (λ z. IsIn (sections p.inside) z) (sym same) inside) in
            let no = not_true (list_any (λ o. is_same_section o.section x) p.inside) closed in
            absurd (cc),
        λ open_free. is_not (list_any (λ o. is_same_section o.section x) p.inside)
            (λ yes. open_free i x stands (any_inside x p.inside yes)),
      )

      rows_now : AllByRecursion (λ row. IsEntering img (ps ++ p ∷ []) row.section row)
          (rows_with_entering e s.rows.items)
      rows_now = elim (list_any (λ row. is_same_section row.section e.section) s.rows.items) as
          (λ b. list_any (λ row. is_same_section row.section e.section) s.rows.items ≡ b
          → AllByRecursion (λ row. IsEntering img (ps ++ p ∷ []) row.section row)
          (if b then map (row_with_entering e) s.rows.items else s.rows.items ++ e ∷ [])) [
            | true ↦ λ there. rows_on s.rows.items tells.rows
            | false ↦ λ none. all_append (λ row. IsEntering img (ps ++ p ∷ []) row.section row) s.rows.items (e ∷ [])
                (rows_apart s.rows.items none tells.rows) (
                  subst (λ y. IsEntering img (ps ++ p ∷ []) y e) (sym of)
                      (first_row (λ q j before. absurd (let yes = tells.each x q j before in
                      let no = subst (λ y. list_any (λ row. is_same_section row.section y) s.rows.items ≡ false) of
                      none in cc))),
                  tt,
                )
          ] refl

      each_now : (y : Section) (q : Point) (j : Instr) → Enterer img (ps ++ p ∷ []) y q j
          → list_any (λ row. is_same_section row.section y) (rows_with_entering e s.rows.items) ≡ true
      each_now y q j enters = elim (list_any (λ row. is_same_section row.section e.section) s.rows.items) as
          (λ b. list_any (λ row. is_same_section row.section e.section) s.rows.items ≡ b
          → list_any (λ row. is_same_section row.section y)
          (if b then map (row_with_entering e) s.rows.items else s.rows.items ++ e ∷ []) ≡ true) [
            | true ↦ λ there. any_added e y s.rows.items ∙ by_cases y q j enters (tells.each y q j)
                (λ _ _ same. subst (λ z. list_any (λ row. is_same_section row.section z) s.rows.items ≡ true)
                (of ∙ same) there)
            | false ↦ λ none. by_cases y q j enters
                (λ before. any_left (λ row. is_same_section row.section y) s.rows.items (e ∷ [])
                (tells.each y q j before))
                (λ _ _ same. any_right (λ row. is_same_section row.section y) s.rows.items (e ∷ [])
                (or_left (is_same_section e.section y) false
                (subst (λ z. is_same_section e.section z ≡ true) (of ∙ same) (same_section e.section))))
          ] refl

      pub takes_enter : TellsOfSections img (ps ++ p ∷ []) t
      takes_enter = record {
        free = subst (λ b. IsTrue b ↔ AllByRecursion (FreeAt img) (ps ++ p ∷ [])) (sym free)
            (tells_more s.free (not (list_any (λ o. is_same_section o.section x) p.inside)) (FreeAt img) ps p tells.free
            free_here);
        rows = subst (λ r. AllByRecursion (λ row. IsEntering img (ps ++ p ∷ []) row.section row) r) (sym rows) rows_now;
        apart = subst AreApart (sym rows) (apart_with e s.rows.items tells.apart);
        each = λ y q j enters. subst (λ r. list_any (λ row. is_same_section row.section y) r ≡ true) (sym rows)
            (each_now y q j enters);
      }

pub no_enter : (img : Image) (p : Point) (i : Instr) (told : Option Note) → slice_get img.code p.address
    ≡ Some (i, told)
    → EntersNone told → (j : Instr) (y : Section) → ¬ EntersBy img p j y
no_enter img p i told stands none j y enters =
    let was : slice_get img.code p.address ≡ told_line i told = stands in
    let is : slice_get img.code p.address ≡ line_of j y = enters in
    subst EntersNone (ap (note_in told) (sym was ∙ is)) none

row_more : (img : Image) (ps : List Point) (p : Point)
    → ((y : Section) (q : Point) (j : Instr) → Enterer img (ps ++ p ∷ []) y q j → Enterer img ps y q j)
    → (row : Entering) → IsEntering img ps row.section row → IsEntering img (ps ++ p ∷ []) row.section row
row_more img ps p before row is = record {
  weakest = record {
    all = λ q j e. is.weakest.all q j (before row.section q j e);
    point = is.weakest.point;
    instr = is.weakest.instr;
    enterer = seen_before img ps p row.section is.weakest.point is.weakest.instr is.weakest.enterer;
    is = is.weakest.is;
  };
  value = value_more row.value is.value;
}
  where
    value_more : (v : Option ℕ) → IsLeastOrNone img ps row.section v → IsLeastOrNone img (ps ++ p ∷ []) row.section v
    value_more None none = λ q j e. none q j (before row.section q j e)
    value_more (Some v) l = record {
      all = λ q j e. l.all q j (before row.section q j e);
      point = l.point;
      instr = l.instr;
      enterer = seen_before img ps p row.section l.point l.instr l.enterer;
      outside = l.outside;
      is = l.is;
    }

rows_more : (img : Image) (ps : List Point) (p : Point)
    → ((y : Section) (q : Point) (j : Instr) → Enterer img (ps ++ p ∷ []) y q j → Enterer img ps y q j)
    → (rows : List Entering) → AllByRecursion (λ row. IsEntering img ps row.section row) rows
    → AllByRecursion (λ row. IsEntering img (ps ++ p ∷ []) row.section row) rows
rows_more img ps p before [] all = tt
rows_more img ps p before (row ∷ rows) all = (row_more img ps p before row all.0, rows_more img ps p before rows all.1)

-- a point at which no section is entered
pub takes_none : (img : Image) (ps : List Point) (p : Point) (s : Sections)
    → ((j : Instr) (y : Section) → ¬ EntersBy img p j y)
    → TellsOfSections img ps s → TellsOfSections img (ps ++ p ∷ []) s
takes_none img ps p s none tells =
    let before : (y : Section) (q : Point) (j : Instr) → Enterer img (ps ++ p ∷ []) y q j → Enterer img ps y q j =
    λ y q j e. ⊎_elim
    (λ seen. record { seen = seen; enters = e.enters })
    (λ same. absurd (none j y (subst (λ r. EntersBy img r j y) (sym same) e.enters)))
    (Contains-push_cases ps p q e.seen) in
    record {
      free = (
        λ yes. all_append (FreeAt img) ps (p ∷ []) (tells.free.0 yes) ((λ j y enters. absurd (none j y enters)), tt),
        λ all. tells.free.1 (all_front (FreeAt img) ps p all),
      );
      rows = rows_more img ps p before s.rows.items tells.rows;
      apart = tells.apart;
      each = λ y q j e. tells.each y q j (before y q j e);
    }

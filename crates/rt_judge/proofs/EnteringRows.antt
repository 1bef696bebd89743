-- Rows of sections, no two of one section, with one more entering.
use Rattle.std.proofs.Common.{◌≡◌, true, false, ℕ, zero, suc, List, [], ◌∷◌, ◌++◌, map, slice_get, slice_set}
use Rattle.std.proofs.Common.{Some, refl, sym, ap, subst, ◌∙◌, if◌then◌else◌}
use Rattle.std.proofs.lemmas.Option.{same_Some, none-some}
use Rattle.rt_lemmas.proofs.Bools.{both_of_none, or_left, or_right, or_neither, true_and_false}
use Rattle.rt_actions.specs.Location.{is_same_section}
use Rattle.rt_actions.proofs.Sections.{one_section}
use Rattle.rt_ids.specs.declared.ids.Section.{Section}
use Rattle.rt_judge.specs.Inside.Entering.{has_row, AreApart, with_entering, row_with_entering}
use Rattle.rt_judge.specs.Inside.Entering.{rows_with_entering}
use Rattle.rt_judge.specs.declared.entering.Entering.{Entering}
use Rattle.rt_code.proofs.Mine.{same_section}

apart_same : (x y : Section) → is_same_section x y ≡ false → is_same_section y x ≡ false
apart_same x y apart = elim (is_same_section y x) as (λ b. is_same_section y x ≡ b → b ≡ false) [
  | true ↦ λ e. let one : y ≡ x = one_section y x e in
      absurd (true_and_false (is_same_section x y)
      (subst (λ z. is_same_section x z ≡ true) (sym one) (same_section x)) apart)
  | false ↦ λ e. refl
] refl

-- a row that is there
pub has_at : (rows : List Entering) (y : Section) (i : ℕ) (row : Entering) → slice_get rows i ≡ Some row
    → is_same_section row.section y ≡ true → has_row rows y ≡ true
has_at [] y i row at same = absurd (none-some row at)
has_at (first ∷ rows) y zero row at same = or_left (is_same_section first.section y) (has_row rows y)
    (subst (λ (r : Entering). is_same_section r.section y ≡ true) (sym (same_Some first row at)) same)
has_at (first ∷ rows) y (suc i) row at same =
    or_right (is_same_section first.section y) (has_row rows y) (has_at rows y i row at same)

module _ (e : Entering) where
  pub section_added : (row : Entering) → (row_with_entering e row).section ≡ row.section
  section_added row = elim (is_same_section row.section e.section) as
      (λ b. is_same_section row.section e.section ≡ b → (row_with_entering e row).section ≡ row.section) [
        | true ↦ λ same. rw same refl
        | false ↦ λ apart. rw apart refl
      ] refl

  pub added_here : (row : Entering) → is_same_section row.section e.section ≡ true → row_with_entering e row
      ≡ with_entering e row
  added_here row same = rw same refl

  pub added_apart : (row : Entering) → is_same_section row.section e.section ≡ false → row_with_entering e row ≡ row
  added_apart row apart = rw apart refl

  pub any_added : (y : Section) (rows : List Entering) → has_row (map (row_with_entering e) rows) y ≡ has_row rows y
  any_added y [] = refl
  any_added y (row ∷ rows) = rw (section_added row, any_added y rows) refl

  apart_map : (rows : List Entering) → AreApart rows → AreApart (map (row_with_entering e) rows)
  apart_map [] all = tt
  apart_map (row ∷ rows) all = (
    any_added (row_with_entering e row).section rows
        ∙ subst (λ x. has_row rows x ≡ false) (sym (section_added row)) all.0,
    apart_map rows all.1,
  )

  has_row_push : (rows : List Entering) (y : Section) → has_row rows y ≡ false → is_same_section e.section y ≡ false
      → has_row (rows ++ e ∷ []) y ≡ false
  has_row_push [] y none apart = or_neither (is_same_section e.section y) false apart refl
  has_row_push (row ∷ rows) y none apart =
      let parts = both_of_none (is_same_section row.section y) (has_row rows y) none in
      or_neither (is_same_section row.section y) (has_row (rows ++ e ∷ []) y) parts.0
      (has_row_push rows y parts.1 apart)

  apart_push : (rows : List Entering) → has_row rows e.section ≡ false → AreApart rows → AreApart (rows ++ e ∷ [])
  apart_push [] none all = (refl, tt)
  apart_push (row ∷ rows) none all =
      let parts = both_of_none (is_same_section row.section e.section) (has_row rows e.section) none in (
        has_row_push rows row.section all.0 (apart_same row.section e.section parts.0),
        apart_push rows parts.1 all.1,
      )

  pub apart_with : (rows : List Entering) → AreApart rows → AreApart (rows_with_entering e rows)
  apart_with rows all = elim (has_row rows e.section) as (λ b. has_row rows e.section ≡ b
      → AreApart (if b then map (row_with_entering e) rows else rows ++ e ∷ [])) [
        | true ↦ λ there. apart_map rows all
        | false ↦ λ none. apart_push rows none all
      ] refl

  map_apart : (rows : List Entering) → has_row rows e.section ≡ false → map (row_with_entering e) rows ≡ rows
  map_apart [] none = refl
  map_apart (row ∷ rows) none =
      let parts = both_of_none (is_same_section row.section e.section) (has_row rows e.section) none in
      ap (λ (r : Entering). r ∷ map (row_with_entering e) rows) (added_apart row parts.0)
      ∙ ap (λ (rs : List Entering). row ∷ rs) (map_apart rows parts.1)

  -- only the row of the section changes
  set_is_map : (rows : List Entering) (i : ℕ) (row : Entering) → AreApart rows → slice_get rows i ≡ Some row
      → is_same_section row.section e.section ≡ true
      → slice_set rows i (with_entering e row) ≡ map (row_with_entering e) rows
  set_is_map [] i row all at same = absurd (none-some row at)
  set_is_map (first ∷ rows) zero row all at same =
      let one : first ≡ row = same_Some first row at in
      let is : is_same_section first.section e.section ≡ true =
      subst (λ (r : Entering). is_same_section r.section e.section ≡ true) (sym one) same in
      let none : has_row rows e.section ≡ false =
      subst (λ x. has_row rows x ≡ false) (one_section first.section e.section is) all.0 in
      ap (λ (r : Entering). with_entering e r ∷ rows) (sym one)
      ∙ ap (λ (r : Entering). r ∷ rows) (sym (added_here first is))
      ∙ ap (λ (rs : List Entering). row_with_entering e first ∷ rs) (sym (map_apart rows none))
  set_is_map (first ∷ rows) (suc i) row all at same =
      let other : is_same_section first.section e.section ≡ false = head_apart first rows i row all.0 at same in
      ap (λ (r : Entering). r ∷ slice_set rows i (with_entering e row)) (sym (added_apart first other))
      ∙ ap (λ (rs : List Entering). row_with_entering e first ∷ rs) (set_is_map rows i row all.1 at same)
    where
      head_apart : (first : Entering) (rows : List Entering) (i : ℕ) (row : Entering)
          → has_row rows first.section ≡ false → slice_get rows i ≡ Some row
          → is_same_section row.section e.section ≡ true → is_same_section first.section e.section ≡ false
      head_apart first rows i row none at same =
          elim (is_same_section first.section e.section) as
          (λ b. is_same_section first.section e.section ≡ b → b ≡ false) [
            | true ↦ λ is.
                let one : row.section ≡ first.section =
                one_section row.section e.section same ∙ sym (one_section first.section e.section is) in
                absurd (true_and_false (has_row rows first.section) (has_at rows first.section i row at
                (subst (λ x. is_same_section row.section x ≡ true) one (same_section row.section))) none)
            | false ↦ λ is. refl
          ] refl

  -- the rows with one more entering, by the index of its row
  pub set_row : (rows : List Entering) (i : ℕ) (row : Entering) → AreApart rows → slice_get rows i ≡ Some row
      → is_same_section row.section e.section ≡ true
      → slice_set rows i (with_entering e row) ≡ rows_with_entering e rows
  set_row rows i row all at same =
      let there : has_row rows e.section ≡ true = has_at rows e.section i row at same in
      set_is_map rows i row all at same ∙ sym (rw there refl)

-- The lines of the cells of a loadable image are taken, one after another.
use Rattle.std.proofs.Common.{◌≡◌, ◌<◌, ℕ, suc, Bool, true, false, not, nat_lt, List, [], ◌∷◌, ◌++◌, length, map}
use Rattle.std.proofs.Common.{filter, take, decimal, Some, Result, Ok, Err, if◌then◌else◌, refl, ap, sym, ◌∙◌, subst}
use Rattle.std.proofs.Common.{arith, append_assoc, append-nil, length-append, slice_get}
use Rattle.std.specs.List.{AllByRecursion}
use Rattle.std.proofs.lemmas.Bool.{lt-ltb}
use Rattle.std.proofs.lemmas.List.{map_push}
use Rattle.std.proofs.lemmas.List.Elements.{filter-append}
use Rattle.rt_lemmas.proofs.Bools.{and_both}
use Rattle.rt_ids.specs.Names.{Names, resource_of}
use Rattle.rt_ids.specs.declared.cell.CellRow.{CellRow}
use Rattle.rt_ids.specs.declared.limits.TheConstants.{SHARED}
use Rattle.rt_ids.proofs.Declared.{next_resource}
use Rattle.rt_code.specs.Image.{Image}
use Rattle.rt_code.specs.Listable.{IsWord}
use Rattle.rt_lines.specs.Answers.{and_then, and_make}
use Rattle.rt_lines.specs.Numbers.{Is32Bits}
use Rattle.rt_listing.specs.Listing.{cell_line}
use Rattle.rt_listing.proofs.Lines.{cell_row, numbered}
use Rattle.rt_load.specs.Loadable.{IsLoadable, has_dot}
use Rattle.rt_load.specs.Inside.Rows.{cell_at}
use Rattle.rt_load.specs.Inside.Taking.{if_line, has_blank, is_new_resource, may_name_cell, is_in_cells, may_add_cell}
use Rattle.rt_load.specs.Inside.Taking.{with_name_of, and_cell, next_cell, take_words, take_line}
use Rattle.rt_load.specs.declared.front.Front.{Front}
use Rattle.rt_load.specs.declared.operand.Wrong.{Wrong}
use Rattle.rt_load.specs.declared.operand.Wrong.TheVariants as wrong
use Rattle.rt_load.proofs.Lines.{cell_text, cell_spelled, words_of_spelled}
use Rattle.rt_load.proofs.Read.{number_back}
use Rattle.rt_load.proofs.ForwardParts.{passes, chooses, front_taken, first_behind, new_from_parts, named_here}
use Rattle.rt_load.proofs.ForwardParts.{below_all, no_blank, RowsLead, row_leads}

-- cells
abbrev is_resource : List ℕ → Bool
is_resource name = not (has_dot name)

abbrev shared_of : List CellRow → List (List ℕ)
shared_of cells = filter is_resource (map (λ cell. cell.name) cells)

shared_next : (cells : List CellRow) (cell : CellRow) → shared_of (cells ++ cell ∷ []) ≡ shared_of cells
    ++ filter is_resource (cell.name ∷ [])
shared_next cells cell =
    ap (filter is_resource) (map_push (λ (c : CellRow). c.name) cells cell)
    ∙ filter-append is_resource (map (λ (c : CellRow). c.name) cells) (cell.name ∷ [])

abbrev pub cells_front : Image → List CellRow → Front
cells_front img done = record {
  image = record img {
    cells = done;
    irqs = [];
    bodies = [];
    code = [];
    names =
        record { irqs = []; tasks = []; shared = shared_of done };
  };
  code = length img.code;
  cells = length img.cells;
}

names_next : (done : List CellRow) (cell : CellRow) → with_name_of
    (record { irqs = []; tasks = []; shared = shared_of done }) cell.name
    ≡ record { irqs = []; tasks = []; shared = shared_of (done ++ cell ∷ []) }
names_next done cell = by (has_dot cell.name) refl
  where
    names : List (List ℕ) → Names
    names shared = record { irqs = []; tasks = []; shared = shared }

    by : (b : Bool) → has_dot cell.name ≡ b → (if b then names (shared_of done) else names
        (shared_of done ++ cell.name ∷ [])) ≡ names (shared_of (done ++ cell ∷ []))
    by true dot = ap names (sym (shared_next done cell ∙ rw dot (append-nil (shared_of done))))
    by false dot = ap names (sym (shared_next done cell ∙ rw dot refl))

module _ (img : Image) (l : IsLoadable img) where
  pub told_shared : shared_of img.cells ≡ img.names.shared
  told_shared = ap (λ (n : Names). n.shared) l.names

  shared_split : (done left : List CellRow) (cell : CellRow) → img.cells ≡ done ++ cell ∷ left → has_dot cell.name
      ≡ false
      → img.names.shared ≡ shared_of done ++ cell.name ∷ shared_of left
  shared_split done left cell is dot =
      sym told_shared ∙ ap shared_of is ∙ ap (filter is_resource) (map-append-cells done (cell ∷ left))
      ∙ filter-append is_resource (map (λ (c : CellRow). c.name) done) (map (λ (c : CellRow). c.name) (cell ∷ left))
      ∙ ap (λ t. shared_of done ++ t) (kept cell.name dot (map (λ (c : CellRow). c.name) left))
    where
      map-append-cells : (xs ys : List CellRow) → map (λ c. c.name) (xs ++ ys) ≡ map (λ c. c.name) xs
          ++ map (λ c. c.name) ys
      map-append-cells [] ys = refl
      map-append-cells (x ∷ xs) ys = ap (λ (ns : List (List ℕ)). x.name ∷ ns) (map-append-cells xs ys)

      kept : (name : List ℕ) → has_dot name ≡ false → (more : List (List ℕ)) → filter is_resource (name ∷ more) ≡ name
          ∷ filter is_resource more
      kept name dot more = rw dot refl

  cell_may : (done left : List CellRow) (cell : CellRow) → img.cells ≡ done ++ cell ∷ left → IsWord cell.name
      → may_add_cell (cells_front img done) cell.name ≡ true
  cell_may done left cell is word =
      let below : length done < length img.cells = omega (arith, ap length is, length-append done (cell ∷ left)) in
      let here : nat_lt (length done) (length img.cells) ≡ true = lt-ltb (length done) (length img.cells) below in
      and_both (is_in_cells (cells_front img done)) (may_name_cell (cells_front img done).image.names cell.name)
      (rw here refl) (by (has_dot cell.name) refl)
    where
      names : Names
      names = record { irqs = []; tasks = []; shared = shared_of done }

      by : (b : Bool) → has_dot cell.name ≡ b → (if b then not (has_blank cell.name) else is_new_resource
          (record { irqs = []; tasks = []; shared = shared_of done }) cell.name) ≡ true
      by true dot = ap not (no_blank cell.name word)
      by false dot =
          let split = shared_split done left cell is dot in
          new_from_parts cell.name (resource_of (record { irqs = []; tasks = []; shared = shared_of done }) cell.name)
          (length (shared_of done)) SHARED
          (named_here img.names.shared (shared_of done) (shared_of left) cell.name split l.fits.names.shared)
          (next_resource (record { irqs = []; tasks = []; shared = shared_of done }) (length (shared_of done)) cell.name
          img.names.shared
          (sym (ap (take (length (shared_of done))) split ∙ front_taken (shared_of done) cell.name (shared_of left)))
          l.fits.names.shared_differ
          (ap (λ (all : List (List ℕ)). slice_get all (length (shared_of done))) split
          ∙ first_behind (shared_of done) cell.name (shared_of left)))
          (below_all img.names.shared (shared_of done) (shared_of left) cell.name SHARED split
          l.fits.names.few_shared)

  cell_step : (done left : List CellRow) (cell : CellRow) → img.cells ≡ done ++ cell ∷ left → IsWord cell.name
      → Is32Bits cell.first
      → take_line (cells_front img done) (cell_text (length done) cell) ≡ Ok (cells_front img (done ++ cell ∷ []))
  unfolding take_line
  cell_step done left cell is word first =
      let front = cells_front img done in
      let line = cell_text (length done) cell in
      let ws = decimal (length done) ∷ decimal cell.first ∷ cell.name ∷ [] in
      let read : cell_at ws ≡ Ok cell = ap (λ (r : Result ℕ Wrong). and_make r
      (λ n. record { name = cell.name; first = n })) (number_back cell.first first) in
      let next : next_cell front line ws ≡ Ok cell =
      ap (λ (r : Result CellRow Wrong). and_then r (λ cell. if may_add_cell front cell.name
      then if_line (cell_line (length front.image.cells) cell) line cell else Err wrong.Form)) read
      ∙ chooses (may_add_cell front cell.name) (if_line (cell_line (length done) cell) line cell)
      (cell_may done left cell is word)
      ∙ passes (cell_line (length done) cell) line cell refl in
      ap (take_words front line) (words_of_spelled (cell_row (length done) cell) (cell_spelled (length done) cell word))
      ∙ ap (λ (r : Result CellRow Wrong). and_make r (and_cell front)) next
      ∙ ap
      (λ (n : Names). Ok
      (record {
        image = record img { cells = done ++ cell ∷ []; irqs = []; bodies = []; code = []; names = n };
        code = length img.code;
        cells = length img.cells;
      }))
      (names_next done cell)

  pub cells_lead : (done left : List CellRow) → img.cells ≡ done ++ left
      → AllByRecursion (λ cell. IsWord cell.name) left → AllByRecursion (λ cell. Is32Bits cell.first) left
      → RowsLead (cells_front img done) (numbered cell_row (length done) left) (cells_front img img.cells)
  cells_lead done [] is words firsts = ap (λ cells. Some (cells_front img cells)) (sym (is ∙ append-nil done))
  cells_lead done (cell ∷ left) is words firsts =
      let next = done ++ cell ∷ [] in
      let number : length next ≡ suc (length done) = omega (arith, length-append done (cell ∷ [])) in
      row_leads (cells_front img done) (cells_front img next) (cells_front img img.cells)
      (cell_row (length done) cell) (numbered cell_row (suc (length done)) left)
      (cell_spelled (length done) cell words.0) (cell_step done left cell is words.0 firsts.0)
      (subst (λ k. RowsLead (cells_front img next) (numbered cell_row k left) (cells_front img img.cells)) number
      (cells_lead next left (is ∙ sym (append_assoc done (cell ∷ []) left)) words.1 firsts.1))

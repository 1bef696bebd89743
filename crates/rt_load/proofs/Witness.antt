-- What a reader has read is the front of some listing: missing cells and instructions can be filled in.
use Rattle.std.proofs.Common.{◌≡◌, inl, inr, ◌<◌, ◌+◌, ◌-◌, ◌&&◌, nat_lt, ℕ, zero, suc, true, List, [], ◌∷◌, ◌++◌}
use Rattle.std.proofs.Common.{length, flat_map, codes, Option, None, refl, ap, sym, ◌∙◌, arith, append_assoc}
use Rattle.std.proofs.Common.{append-nil, length-append, eq-eqb}
use Rattle.std.proofs.lemmas.Bool.{lt-ltb}
use Rattle.rt_lemmas.proofs.Bools.{and_both}
use Rattle.rt_ids.specs.Lists.{is_empty}
use Rattle.rt_ids.specs.declared.cell.CellRow.{CellRow}
use Rattle.rt_code.specs.Image.{Image}
use Rattle.rt_code.specs.declared.instr.Instr.{Instr}
use Rattle.rt_code.specs.declared.instr.Instr.TheVariants as instr
use Rattle.rt_code.specs.declared.instr.Note.{Note}
use Rattle.rt_listing.specs.Listing.{first_line, lines_with_numbers, cell_line, irq_line, body_line, code_line, listing}
use Rattle.rt_load.specs.Loadable.{IsLoadable}
use Rattle.rt_load.specs.Reading.{IsViablePrefix}
use Rattle.rt_load.specs.Inside.Taking.{may_add_cell, may_name_cell, is_in_cells, has_cells, and_cell, and_line}
use Rattle.rt_load.specs.declared.front.Front.{Front}
use Rattle.rt_load.proofs.Fronts.{front_text, Stands, IsInCells}
use Rattle.rt_load.proofs.Taken.{Goes, cell_goes, line_goes}

-- a listing that begins so
pub record Witness (front : Front) : Type 0 where
  pub image : Image
  pub loadable : IsLoadable image
  pub behind : List ℕ
  pub is : listing image ≡ front_text front ++ behind
  pub names : image.names ≡ front.image.names

behind_goes : (front next : Front) (line behind text : List ℕ) → front_text next ≡ front_text front ++ line → text
    ≡ front_text next ++ behind → text ≡ front_text front ++ (line ++ behind)
behind_goes front next line behind text goes is = is ∙ ap (λ t. t ++ behind) goes
    ∙ append_assoc (front_text front) line behind

pub whole_text : (front : Front) → length front.image.cells ≡ front.cells → length front.image.code ≡ front.code
    → listing front.image ≡ front_text front ++ []
whole_text front cells code =
    let img = front.image in
    ap (λ (n : ℕ). (((first_line img n (length img.cells) ++ lines_with_numbers cell_line 0 img.cells)
    ++ flat_map irq_line img.irqs) ++ flat_map (body_line img.names) img.bodies)
    ++ lines_with_numbers (code_line img.names) 0 img.code) code
    ∙ ap (λ (n : ℕ). (((first_line img front.code n ++ lines_with_numbers cell_line 0 img.cells)
    ++ flat_map irq_line img.irqs) ++ flat_map (body_line img.names) img.bodies)
    ++ lines_with_numbers (code_line img.names) 0 img.code) cells
    ∙ sym (append-nil (front_text front))

pub mark_goes : (front : Front) → Stands front → length front.image.cells ≡ front.cells
    → length front.image.code < front.code
    → Goes front (and_line front (instr.Mark, None)) (code_line front.image.names (length front.image.code)
    (instr.Mark, None))
mark_goes front stands cells below =
    line_goes front (instr.Mark, None) stands
    (and_both (has_cells front) (nat_lt (length front.image.code) front.code)
    (eq-eqb (length front.image.cells) front.cells cells) (lt-ltb (length front.image.code) front.code below))
    (record { within = record { operands = tt; note = tt }; instr = tt; note = tt })

fill_code : (k : ℕ) (front : Front) → Stands front → length front.image.cells ≡ front.cells → length front.image.code
    + k ≡ front.code → Witness front
fill_code zero front stands cells code = record {
  image = front.image;
  loadable = stands.loadable;
  behind = [];
  is = whole_text front cells (omega (arith, code));
  names = refl;
}
fill_code (suc k) front stands cells code =
    let mark : Instr × Option Note = (instr.Mark, None) in
    let goes = mark_goes front stands cells (omega (arith, code)) in
    let rest = fill_code k (and_line front mark) goes.stands cells
    (omega (arith, code, length-append front.image.code (mark ∷ []))) in
    record {
      image = rest.image;
      loadable = rest.loadable;
      behind = code_line front.image.names (length front.image.code) mark ++ rest.behind;
      is = behind_goes front (and_line front mark) _ rest.behind (listing rest.image) goes.text rest.is;
      names = rest.names;
    }

abbrev dotted : CellRow
dotted = record { name = codes "."; first = 0 }

no_rows : {A : Type 0} (xs : List A) → xs ≡ [] → is_empty xs ≡ true
no_rows xs e = ap is_empty e

fill_cells : (k : ℕ) (front : Front) → Stands front → IsInCells front.image → length front.image.cells + k ≡ front.cells
    → Witness front
fill_cells zero front stands in_cells cells =
    let below = stands.code in
    fill_code (front.code - length front.image.code) front stands (omega (arith, cells)) (omega (arith, below))
fill_cells (suc k) front stands in_cells cells =
    let img = front.image in
    let here : nat_lt (length img.cells) front.cells ≡ true = lt-ltb (length img.cells) front.cells
    (omega (arith, cells)) in
    let may : may_add_cell front (codes ".") ≡ true =
    and_both (is_in_cells front) (may_name_cell img.names (codes "."))
    (and_both ((nat_lt (length img.cells) front.cells && is_empty img.irqs) && is_empty img.bodies) (is_empty img.code)
    (and_both (nat_lt (length img.cells) front.cells && is_empty img.irqs) (is_empty img.bodies)
    (and_both (nat_lt (length img.cells) front.cells) (is_empty img.irqs) here (no_rows img.irqs in_cells.irqs))
    (no_rows img.bodies in_cells.bodies)) (no_rows img.code in_cells.code))
    refl in
    let goes = cell_goes front dotted stands may (omega arith) in
    let in_next : IsInCells (and_cell front dotted).image =
    record { irqs = in_cells.irqs; bodies = in_cells.bodies; code = in_cells.code } in
    let rest = fill_cells k (and_cell front dotted) goes.stands in_next
    (omega (arith, cells, length-append img.cells (dotted ∷ []))) in
    record {
      image = rest.image;
      loadable = rest.loadable;
      behind = cell_line (length img.cells) dotted ++ rest.behind;
      is = behind_goes front (and_cell front dotted) _ rest.behind (listing rest.image) goes.text rest.is;
      names = rest.names;
    }

pub witness : (front : Front) → Stands front → Witness front
witness front stands = elim (stands.full) [
  | inl full ↦ let below = stands.code in fill_code (front.code - length front.image.code) front stands full
      (omega (arith, below))
  | inr in_cells ↦ let below = stands.cells in fill_cells (front.cells - length front.image.cells) front stands in_cells
      (omega (arith, below))
]

pub begins : (front : Front) (text : List ℕ) → Stands front → front_text front ≡ text → IsViablePrefix text
begins front text stands is =
    let w = witness front stands in
    record { image = w.image; loadable = w.loadable; behind = w.behind; is = w.is ∙ ap (λ t. t ++ w.behind) is }

-- What is looked for at points, and that it is not there.
use Rattle.std.specs.Prelude.{◌≡◌, ◌≢◌, ℕ, ◌<◌, ◌≤◌, ◌&&◌, ◌||◌, ◌==◌, not, Bool, true, false, List, length, slice_get}
use Rattle.std.specs.Prelude.{Option, Some}
use Rattle.std.specs.List.{list_all}
use Rattle.rt_ids.specs.Choice.{IsIn}
use Rattle.rt_ids.specs.declared.ids.Section.{Section}
use Rattle.rt_code.specs.Access.{Access, cell_of}
use Rattle.rt_code.specs.Image.{Image}
use Rattle.rt_code.specs.declared.instr.Instr.{Instr}
use Rattle.rt_code.specs.declared.instr.Note.{Note}
use Rattle.rt_code.specs.declared.instr.Note.TheVariants as note
use Rattle.rt_points.specs.ExecutionPriority.{owner_value}
use Rattle.rt_points.specs.Point.{Point, sections}
use Rattle.rt_points.specs.declared.point.Owner.{Owner}
use Rattle.rt_points.specs.declared.point.Owner.TheVariants.{Starting}
use Rattle.rt_points.specs.declared.point.Opened.{Opened}
use Rattle.rt_points.specs.Rules.{IsOperable, IsNotedWell, priority_after, touched_cell, IsStore}
use Rattle.rt_judge.specs.Inside.Kept.{HasLine, OperatesAt, NotesAt, EntersBy, FreeAt}
use Rattle.rt_judge.specs.Inside.Touching.{is_open, is_stored}
use Rattle.rt_judge.specs.declared.touching.Touching.{Touching}
use Rattle.rt_why.specs.declared.wanted.Wanted.{Wanted}
use Rattle.rt_why.specs.declared.wanted.Wanted.TheVariants as want

-- a note is the entering of a section that is open
abbrev pub EntersOpen : Option Note → List Opened → Type 0
EntersOpen (Some (note.Enter x)) inside = IsIn (sections inside) x
EntersOpen told inside = ⊥

-- a line stands at a point of which this is so
pub record LineAt (img : Image) (p : Point) (P : Instr → Option Note → Type 0) : Type 0 where
  pub instr : Instr
  pub told : Option Note
  pub stands : slice_get img.code p.address ≡ Some (instr, told)
  pub is : P instr told

-- a section is entered at a point of which this is so
pub record EnteringAt (img : Image) (p : Point) (P : Instr → Section → Type 0) : Type 0 where
  pub instr : Instr
  pub section : Section
  pub enters : EntersBy img p instr section
  pub is : P instr section

-- a cell is touched at a point outside `init`, by an access of which this is so
pub record TouchAt (img : Image) (p : Point) (cell : ℕ) (P : Access → Type 0) : Type 0 where
  pub outside : p.owner ≢ Starting
  pub instr : Instr
  pub told : Option Note
  pub stands : slice_get img.code p.address ≡ Some (instr, told)
  pub access : Access
  pub by : touched_cell instr ≡ Some access
  pub touches : cell_of access ≡ cell
  pub is : P access

-- a touch tells more than is known of those who touch the cell: a first store, a first other value, or a section of
-- those that were open at each touch is not open
abbrev pub tells_more : Image → Owner → List Opened → Option Access → Touching → Bool
tells_more img owner inside access known =
    (is_stored access && not known.stored)
    || ((not (owner_value img owner == known.value) && not known.differ)
    || not (list_all (is_open inside) known.sections.items))

-- what is looked for is at a point
abbrev pub IsWanted : Image → Wanted → Point → Type 0
IsWanted img want.Nothing p = ⊥
IsWanted img want.Past p = length img.code ≤ p.address
IsWanted img want.Inoperable p = LineAt img p (λ i told. ¬ IsOperable img p i)
IsWanted img want.Misnoted p = LineAt img p (λ i told. ¬ IsNotedWell img p i told)
IsWanted img want.Again p = EnteringAt img p (λ i x. IsIn (sections p.inside) x)
IsWanted img (want.Weaker x value) p = EnteringAt img p (λ i y. (y ≡ x) × (value < priority_after img p i x))
IsWanted img (want.Enterer x value) p =
    EnteringAt img p (λ i y. (y ≡ x) × (p.owner ≢ Starting) × (owner_value img p.owner ≤ value))
IsWanted img (want.Store cell) p = TouchAt img p cell IsStore
IsWanted img (want.Touch cell) p = TouchAt img p cell (λ a. Unit {0})
IsWanted img (want.Other cell value) p = TouchAt img p cell (λ a. owner_value img p.owner ≢ value)
IsWanted img (want.Outside cell x) p = TouchAt img p cell (λ a. ¬ IsIn (sections p.inside) x)
IsWanted img (want.More cell known) p =
    TouchAt img p cell (λ a. tells_more img p.owner p.inside (Some a) known ≡ true)

-- each touch of a cell at a point outside `init` is by an access of which this is so
abbrev pub EachTouchAt : Image → Point → ℕ → (Access → Type 0) → Type 0
EachTouchAt img p cell P =
    (i : Instr) (told : Option Note) (a : Access) → p.owner ≢ Starting
    → slice_get img.code p.address ≡ Some (i, told) → touched_cell i ≡ Some a → cell_of a ≡ cell → P a

-- what is looked for is not at a point
abbrev pub IsUnwanted : Image → Wanted → Point → Type 0
IsUnwanted img want.Nothing p = Unit {0}
IsUnwanted img want.Past p = HasLine img p
IsUnwanted img want.Inoperable p = OperatesAt img p
IsUnwanted img want.Misnoted p = NotesAt img p
IsUnwanted img want.Again p = FreeAt img p
IsUnwanted img (want.Weaker x value) p = (i : Instr) → EntersBy img p i x → priority_after img p i x ≤ value
IsUnwanted img (want.Enterer x value) p =
    (i : Instr) → EntersBy img p i x → p.owner ≢ Starting → value < owner_value img p.owner
IsUnwanted img (want.Store cell) p = EachTouchAt img p cell (λ a. ¬ IsStore a)
IsUnwanted img (want.Touch cell) p = EachTouchAt img p cell (λ a. ⊥)
IsUnwanted img (want.Other cell value) p = EachTouchAt img p cell (λ a. owner_value img p.owner ≡ value)
IsUnwanted img (want.Outside cell x) p = EachTouchAt img p cell (λ a. IsIn (sections p.inside) x)
IsUnwanted img (want.More cell known) p =
    EachTouchAt img p cell (λ a. tells_more img p.owner p.inside (Some a) known ≡ false)

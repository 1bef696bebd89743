-- What is kept of those who touch a cell, by the points that were looked at.
use Rattle.std.specs.Prelude.{◌≡◌, ◌≢◌, ◌⊎◌, ◌||◌, ◌==◌, not, ℕ, Bool, true, false, List, Some, Option, None, slice_get}
use Rattle.std.specs.Prelude.{◌↔◌, slice_set, option_map, map, length}
use Rattle.std.specs.List.{Contains, list_any}
use Rattle.rt_actions.specs.Location.{is_same_section}
use Rattle.rt_ids.specs.Choice.{IsIn}
use Rattle.rt_ids.specs.declared.ids.Section.{Section}
use Rattle.rt_code.specs.Access.{Access, Loads, Stores, cell_of}
use Rattle.rt_code.specs.Image.{Image}
use Rattle.rt_code.specs.declared.instr.Instr.{Instr}
use Rattle.rt_code.specs.declared.instr.Note.{Note}
use Rattle.rt_points.specs.Point.{Point, sections}
use Rattle.rt_points.specs.declared.point.Owner.TheVariants.{Starting}
use Rattle.rt_points.specs.declared.point.Owner.{Owner}
use Rattle.rt_points.specs.declared.point.Opened.{Opened}
use Rattle.rt_points.specs.ExecutionPriority.{owner_value}
use Rattle.rt_points.specs.Rules.{touched_cell, IsStore}
use Rattle.rt_judge.specs.declared.touching.Touching.{Touching}
use Rattle.rt_judge.specs.declared.touching.Touch.{Touch}

-- whether it is an access that stores
abbrev pub is_stored : Option Access → Bool
is_stored None = false
is_stored (Some (Loads cell)) = false
is_stored (Some (Stores cell)) = true

-- one of the points outside `init` at which a cell is touched
pub record Toucher (img : Image) (ps : List Point) (cell : ℕ) (p : Point) (a : Access) : Type 0 where
  pub seen : Contains ps p
  pub outside : p.owner ≢ Starting
  pub instr : Instr
  pub told : Option Note
  pub stands : slice_get img.code p.address ≡ Some (instr, told)
  pub by : touched_cell instr ≡ Some a
  pub touches : cell_of a ≡ cell

-- an access to the cell that passes, or none does
abbrev pub SomeIfTrue : Bool → (Point → Access → Type 0) → Type 0
SomeIfTrue true P = (p : Point) × (a : Access) × P p a
SomeIfTrue false P = (p : Point) (a : Access) → ¬ P p a

-- what a row has of a cell that is touched, by the points that were looked at
pub record IsTouching (img : Image) (ps : List Point) (cell : ℕ) (t : Touching) : Type 0 where
  pub stored : SomeIfTrue t.stored (λ p a. Toucher img ps cell p a × IsStore a)
  pub first : Point
  pub access : Access
  pub touches : Toucher img ps cell first access
  pub value : owner_value img first.owner ≡ t.value
  pub differ : SomeIfTrue t.differ (λ p a. Toucher img ps cell p a × (owner_value img p.owner ≢ t.value))
  pub guards : (x : Section) → IsIn t.sections.items x → (p : Point) (a : Access) → Toucher img ps cell p a
      → IsIn (sections p.inside) x
  pub guarding : (x : Section) → ((p : Point) (a : Access) → Toucher img ps cell p a → IsIn (sections p.inside) x)
      → IsIn t.sections.items x

-- what a row has of a cell
abbrev pub TellsOfTouching : Image → List Point → ℕ → Option Touching → Type 0
TellsOfTouching img ps cell None = (p : Point) (a : Access) → ¬ Toucher img ps cell p a
TellsOfTouching img ps cell (Some t) = IsTouching img ps cell t

-- what the rows have of the cells by number
abbrev pub TellsOfCells : Image → List Point → List (Option Touching) → Type 0
TellsOfCells img ps rows =
    (cell : ℕ) (row : Option Touching) → slice_get rows cell ≡ Some row → TellsOfTouching img ps cell row

-- whether a section is open
abbrev pub is_open : List Opened → Section → Bool
is_open opened x = list_any (λ o. is_same_section o.section x) opened

-- whether a section is one of these
abbrev pub is_among : List Section → Section → Bool
is_among xs x = list_any (λ y. is_same_section y x) xs

-- what a row has of a cell behind its first touch
pub record IsFirst (touch : Touch) (opened : List Opened) (t : Touching) : Type 0 where
  pub stored : t.stored ≡ touch.stored
  pub value : t.value ≡ touch.value
  pub differ : t.differ ≡ false
  pub sections : t.sections.items ≡ map (λ o. o.section) opened

-- what a row has of a cell behind one more touch
pub record IsWith (old : Touching) (touch : Touch) (opened : List Opened) (t : Touching) : Type 0 where
  pub stored : t.stored ≡ (old.stored || touch.stored)
  pub value : t.value ≡ old.value
  pub differ : t.differ ≡ (old.differ || not (touch.value == old.value))
  pub sections : (x : Section) → IsIn t.sections.items x ↔ (IsIn old.sections.items x × (is_open opened x ≡ true))

-- what a row has of a cell behind a touch, the first or one more
abbrev pub IsNext : Option Touching → Touch → List Opened → Touching → Type 0
IsNext None touch opened t = IsFirst touch opened t
IsNext (Some old) touch opened t = IsWith old touch opened t

-- a row behind a touch
pub record IsTouchedRow (old new : Option Touching) (touch : Touch) (opened : List Opened) : Type 0 where
  pub next : Touching
  pub is_next : IsNext old touch opened next
  pub is : new ≡ Some next

-- the rows with one more touch
pub record IsTouched (old new : List (Option Touching)) (touch : Touch) (opened : List Opened) : Type 0 where
  pub row : Option Touching
  pub was : slice_get old touch.cell ≡ Some row
  pub next : Touching
  pub is_next : IsNext row touch opened next
  pub is : new ≡ slice_set old touch.cell (Some next)

-- the touch of an instruction, `init` aside
abbrev pub IsTouchOf : Image → Owner → Instr → Option Touch → Type 0
IsTouchOf img owner i None = (owner ≡ Starting) ⊎ (touched_cell i ≡ None)
IsTouchOf img owner i (Some touch) =
    (owner ≢ Starting) × (owner_value img owner ≡ touch.value) × (option_map cell_of (touched_cell i) ≡ Some touch.cell)
    × (is_stored (touched_cell i) ≡ touch.stored)

-- where owners contend there is a section that is open at each touch
abbrev pub is_guarded : Touching → Bool
is_guarded t = not t.stored || (not t.differ || not (length t.sections.items == 0))

-- whether the cell of a row, where it is touched, is guarded
abbrev pub is_row_guarded : Option Touching → Bool
is_row_guarded None = true
is_row_guarded (Some t) = is_guarded t

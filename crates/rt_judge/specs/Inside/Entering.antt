-- What is kept of those who enter a section, by the points that were looked at.
use Rattle.std.specs.Prelude.{◌≡◌, ◌≢◌, ◌↔◌, ℕ, ◌≤◌, ◌++◌, [], ◌∷◌, Bool, true, IsTrue, nat_le, min, max, map}
use Rattle.std.specs.Prelude.{false, List, Some, Option, None, if◌then◌else◌, slice_get}
use Rattle.std.specs.List.{Contains, AllByRecursion, list_any}
use Rattle.rt_actions.specs.Location.{is_same_section}
use Rattle.rt_ids.specs.declared.ids.Section.{Section}
use Rattle.rt_code.specs.Image.{Image}
use Rattle.rt_code.specs.declared.instr.Instr.{Instr}
use Rattle.rt_code.specs.declared.instr.Note.{Note}
use Rattle.rt_code.specs.declared.instr.Note.TheVariants as note
use Rattle.rt_points.specs.Point.{Point}
use Rattle.rt_points.specs.declared.point.Owner.TheVariants.{Starting}
use Rattle.rt_points.specs.ExecutionPriority.{owner_value}
use Rattle.rt_points.specs.Rules.{priority_after}
use Rattle.rt_judge.specs.Inside.Kept.{EntersBy, FreeAt}
use Rattle.rt_judge.specs.declared.entering.Entering.{Entering}
use Rattle.rt_judge.specs.declared.entering.Sections.{Sections}

-- no section is entered
abbrev pub EntersNone : Option Note → Type 0
EntersNone (Some (note.Enter x)) = ⊥
EntersNone told = Unit {0}

-- what may not be there passes
abbrev pub none_or : (ℕ → Bool) → Option ℕ → Bool
none_or test None = true
none_or test (Some n) = test n

-- one of the points at which a section is entered
pub record Enterer (img : Image) (ps : List Point) (x : Section) (p : Point) (i : Instr) : Type 0 where
  pub seen : Contains ps p
  pub enters : EntersBy img p i x

-- the greatest priority value that execution has after an entering: the weakest hold
pub record IsGreatestValue (img : Image) (ps : List Point) (x : Section) (value : ℕ) : Type 0 where
  pub all : (p : Point) (i : Instr) → Enterer img ps x p i → priority_after img p i x ≤ value
  pub point : Point
  pub instr : Instr
  pub enterer : Enterer img ps x point instr
  pub is : priority_after img point instr x ≡ value

-- the least priority value of an enterer other than `init`
pub record IsLeastValue (img : Image) (ps : List Point) (x : Section) (value : ℕ) : Type 0 where
  pub all : (p : Point) (i : Instr) → Enterer img ps x p i → p.owner ≢ Starting → value ≤ owner_value img p.owner
  pub point : Point
  pub instr : Instr
  pub enterer : Enterer img ps x point instr
  pub outside : point.owner ≢ Starting
  pub is : owner_value img point.owner ≡ value

-- the least priority value of an enterer other than `init`, where there is such a one
abbrev pub IsLeastOrNone : Image → List Point → Section → Option ℕ → Type 0
IsLeastOrNone img ps x None = (p : Point) (i : Instr) → Enterer img ps x p i → p.owner ≡ Starting
IsLeastOrNone img ps x (Some value) = IsLeastValue img ps x value

-- what a row has of a section, by the points that were looked at
pub record IsEntering (img : Image) (ps : List Point) (x : Section) (e : Entering) : Type 0 where
  pub weakest : IsGreatestValue img ps x e.weakest
  pub value : IsLeastOrNone img ps x e.value

-- whether there is a row of a section
abbrev pub has_row : List Entering → Section → Bool
has_row rows x = list_any (λ row. is_same_section row.section x) rows

-- no two rows are of one section
abbrev pub AreApart : List Entering → Type 0
AreApart [] = Unit {0}
AreApart (row ∷ rows) = (has_row rows row.section ≡ false) × AreApart rows

-- the row at an index is of a section
pub record IsRowOf (rows : List Entering) (x : Section) (index : ℕ) : Type 0 where
  pub row : Entering
  pub is : slice_get rows index ≡ Some row
  pub of : is_same_section row.section x ≡ true

-- the index of the row of a section, or there is none
abbrev pub IsFound : List Entering → Section → Option ℕ → Type 0
IsFound rows x None = has_row rows x ≡ false
IsFound rows x (Some index) = IsRowOf rows x index

-- what the rows have of sections: each of its own, and there is one for each that is entered
pub record TellsOfSections (img : Image) (ps : List Point) (s : Sections) : Type 0 where
  pub free : IsTrue s.free ↔ AllByRecursion (FreeAt img) ps
  pub rows : AllByRecursion (λ row. IsEntering img ps row.section row) s.rows.items
  pub apart : AreApart s.rows.items
  pub each : (x : Section) (p : Point) (i : Instr) → Enterer img ps x p i
      → has_row s.rows.items x ≡ true

-- the lesser of two values that may not be there
abbrev pub least : Option ℕ → Option ℕ → Option ℕ
least (Some a) (Some b) = Some (min a b)
least (Some a) None = Some a
least None other = other

-- a row with one more entering of its section
abbrev pub with_entering : Entering → Entering → Entering
with_entering e row = record row { weakest = max row.weakest e.weakest; value = least row.value e.value }

-- a row with one more entering, if that is of the row's section
abbrev pub row_with_entering : Entering → Entering → Entering
row_with_entering e row = if is_same_section row.section e.section then with_entering e row else row

-- the rows with one more entering
abbrev pub rows_with_entering : Entering → List Entering → List Entering
rows_with_entering e rows =
    if has_row rows e.section then map (row_with_entering e) rows else rows ++ e
    ∷ []

-- each entering holds off everyone who enters
abbrev pub holds_off : Entering → Bool
holds_off row = none_or (λ value. nat_le row.weakest value) row.value

-- What was found of the sections at points that were looked at.
use Rattle.std.specs.Prelude.{◌≡◌, ◌⊎◌, ◌<◌, ◌≤◌, ◌^◌, ◌&&◌, ℕ, max, nat_lt, nat_le, Bool, true, List, [], ◌∷◌, ◌++◌}
use Rattle.std.specs.Prelude.{length, map, if◌then◌else◌, slice_get, Option, Some, None}
use Rattle.std.specs.List.{AllByRecursion, Contains, list_any}
use Rattle.rt_actions.specs.Location.{is_same_section}
use Rattle.rt_ids.specs.Priority.{hardware}
use Rattle.rt_ids.specs.declared.ids.Section.{Section}
use Rattle.rt_code.specs.Image.{Image}
use Rattle.rt_code.specs.declared.instr.Instr.{Instr}
use Rattle.rt_code.specs.declared.instr.Note.TheVariants as note
use Rattle.rt_points.specs.ExecutionPriority.{execution_priority}
use Rattle.rt_points.specs.Point.{Point}
use Rattle.rt_points.specs.Rules.{priority_after}
use Rattle.rt_points.specs.declared.point.Opened.{Opened}
use Rattle.rt_points.specs.declared.point.Owner.{Owner}
use Rattle.rt_judge.specs.Inside.Points.{point}
use Rattle.rt_judge.specs.Inside.Walks.{Reached}
use Rattle.rt_bounds.specs.Bounds.{AreInOrder, Enters, HoldsOff, IsSectionBound, place}
use Rattle.rt_bounds.specs.declared.bound.SectionBound.{SectionBound}
use Rattle.rt_bounds.specs.declared.bound.WaitBound.{WaitBound}
use Rattle.rt_bounds.specs.declared.gathered.Entry.{Entry}
use Rattle.rt_bounds.specs.declared.gathered.Gathered.{Gathered}
use Rattle.rt_bounds.specs.declared.longest.Longest.{Longest}
use Rattle.rt_bounds.specs.declared.longest.Longest.TheVariants.{Steps, Loop}

-- the worse of two: a loop, or the greater number
abbrev pub worse : Longest → Longest → Longest
worse (Loop a) other = Loop a
worse (Steps m) (Loop b) = Loop b
worse (Steps m) (Steps n) = Steps (max m n)

-- the worse of what was found so far, if anything was, and another
abbrev pub worst : Option Longest → Longest → Longest
worst None other = other
worst (Some longest) other = worse longest other

-- a section is entered at a point, with these priority values outside and inside
pub record IsEntry (img : Image) (p : Point) (e : Entry) : Type 0 where
  pub instr : Instr
  pub stands : slice_get img.code p.address ≡ Some (instr, Some (note.Enter e.section))
  pub outside : e.outside ≡ execution_priority img p.owner p.inside
  pub inside : e.inside ≡ priority_after img p instr e.section

-- no section is entered at a point
abbrev pub EntersNothing : Image → Point → Type 0
EntersNothing img p = (i : Instr) (x : Section) → ¬ (slice_get img.code p.address ≡ Some (i, Some (note.Enter x)))

-- a section is entered at an address of an owner where so many are open
pub record EntersAt (img : Image) (owner : Owner) (reached : Reached) (depth address : ℕ) (e : Entry) : Type 0 where
  pub inside : List Opened
  pub there : reached address ≡ Some inside
  pub many : length inside ≡ depth
  pub entry : IsEntry img (point address owner inside) e

-- no section is entered at an address of an owner where so many are open
abbrev pub EntersNoneAt : Image → Owner → Reached → ℕ → ℕ → Type 0
EntersNoneAt img owner reached depth address =
    (inside : List Opened) → reached address ≡ Some inside → length inside ≡ depth
    → EntersNothing img (point address owner inside)

-- whether there is a row of a section
abbrev pub has_row : List SectionBound → Section → Bool
has_row rows x = list_any (λ row. is_same_section row.section x) rows

-- a row with one more bound of a section, if it is the row's
abbrev pub widened : Section → Longest → SectionBound → SectionBound
widened x longest row =
    if is_same_section row.section x then record row { longest = worse row.longest longest } else row

-- rows of an owner with one more bound of a section
abbrev pub rows_with : Owner → Section → Longest → List SectionBound → List SectionBound
rows_with owner x longest rows =
    if has_row rows x then map (widened x longest) rows
    else rows ++ record { owner = owner; section = x; longest = longest } ∷ []

-- whether an entry holds a priority value off, and what is outside it does not
abbrev pub holds_off : ℕ → Entry → Bool
holds_off value e = nat_le e.inside value && nat_lt value e.outside

-- the row of a priority with one more section
abbrev pub held : ℕ → Entry → Longest → WaitBound → WaitBound
held bits e longest row =
    if holds_off (hardware bits row.priority) e then record row { longest = Some (worst row.longest longest) } else row

-- the priority of a row is one that a task may have
abbrev pub IsPriority : ℕ → WaitBound → Type 0
IsPriority bits row = (1 ≤ row.priority) × (row.priority ≤ 2 ^ bits)

-- and so are those of rows
abbrev pub ArePriorities : ℕ → List WaitBound → Type 0
ArePriorities bits rows = AllByRecursion (IsPriority bits) rows

-- the bound of the sections that are entered at points of which both is so, where there is such a point
abbrev pub IsSoFar : Image → (Point → Type 0) → (Point → Type 0) → Option Longest → Type 0
IsSoFar img Seen Entered None = (p : Point) → Seen p → ¬ Entered p
IsSoFar img Seen Entered (Some longest) = IsSectionBound img (λ p. Seen p × Entered p) longest

-- a point comes before those with so many sections open from an address on
abbrev pub IsBefore : ℕ → ℕ → Point → Type 0
IsBefore depth address p = (length p.inside < depth) ⊎ ((length p.inside ≡ depth) × (p.address < address))

-- a point of an owner that was looked at, or one of this owner before this
abbrev pub IsSeen : List Owner → Owner → ℕ → ℕ → Point → Type 0
IsSeen done owner depth address p =
    Contains done p.owner ⊎ ((p.owner ≡ owner) × IsBefore depth address p)

-- the rows of an owner tell what is so at these points
pub record AreOwn (img : Image) (owner : Owner) (depth address : ℕ) (rows : List SectionBound) : Type 0 where
  pub each : AllByRecursion (λ row. (row.owner ≡ owner)
      × IsSectionBound img (λ p. IsBefore depth address p × Enters img owner row.section p) row.longest) rows
  pub all : (x : Section) (p : Point) → IsBefore depth address p → Enters img owner x p → has_row rows x ≡ true
  pub order : AreInOrder img rows

-- the rows of priorities tell what is so at the points of owners that were looked at, and at these points of one
abbrev pub AreWaitsSoFar : Image → List Owner → Owner → ℕ → ℕ → List WaitBound → Type 0
AreWaitsSoFar img done owner depth address rows = AllByRecursion (λ row.
    IsSoFar img (IsSeen done owner depth address) (HoldsOff img (hardware img.bits row.priority)) row.longest) rows

-- what was found at the points of an owner before these
pub record IsGatheredTo (img : Image) (done : List Owner) (owner : Owner) (depth address : ℕ) (g : Gathered)
    : Type 0 where
  pub own : AreOwn img owner depth address g.own.items
  pub waits : AreWaitsSoFar img done owner depth address g.waits.items

-- the rows of owners that were looked at
pub record AreAll (img : Image) (done : List Owner) (rows : List SectionBound) : Type 0 where
  pub each : AllByRecursion (λ row. IsSectionBound img (Enters img row.owner row.section) row.longest) rows
  pub all : (owner : Owner) (x : Section) (p : Point) → Contains done owner → Enters img owner x p
      → (row : SectionBound) × Contains rows row × (row.owner ≡ owner) × (row.section ≡ x)
  pub order : AreInOrder img rows
  pub owners : AllByRecursion (λ row. Contains done row.owner) rows

-- all these owners come before another
abbrev pub AreEarlier : Owner → List Owner → Type 0
AreEarlier owner done = AllByRecursion (λ o. place o < place owner) done

-- what was found at the points of these owners
pub record IsGathered (img : Image) (done : List Owner) (g : Gathered) : Type 0 where
  pub own : g.own.items ≡ []
  pub sections : AreAll img done g.sections.items
  pub waits : AllByRecursion (λ row. IsSoFar img (λ p. Contains done p.owner)
      (HoldsOff img (hardware img.bits row.priority)) row.longest) g.waits.items

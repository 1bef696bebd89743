-- Where an owner comes to each address from, as the code keeps it: between which addresses.
use Rattle.std.specs.Prelude.{◌≡◌, ◌≢◌, ◌⊎◌, ℕ, suc, ◌-◌, ◌^◌, ◌≤◌, ◌<◌, ◌==◌, ◌&&◌, Bool, true, false}
use Rattle.std.specs.Prelude.{min, max, if◌then◌else◌, List, [], ◌∷◌}
use Rattle.std.specs.Prelude.{length, slice_get, slice_set, Option, Some, None}
use Rattle.rt_code.specs.Image.{Image}
use Rattle.rt_code.specs.declared.instr.Instr.{Instr}
use Rattle.rt_code.specs.declared.instr.Note.{Note}
use Rattle.rt_points.specs.Leading.{IsPoint, LeadsTo}
use Rattle.rt_points.specs.Point.{Point}
use Rattle.rt_points.specs.Rules.{written_slot, StaysInCode}
use Rattle.rt_points.specs.declared.point.Owner.{Owner}
use Rattle.rt_points.specs.declared.point.Owner.TheVariants.{Starting}
use Rattle.rt_judge.specs.Inside.Exits.{targets, ends_init}
use Rattle.rt_judge.specs.Inside.Tables.{found}
use Rattle.rt_judge.specs.declared.nesting.Nesting.{Nesting}
use Rattle.rt_judge.specs.declared.walk.Visit.{Visit}
use Rattle.rt_judge.specs.declared.walk.Walk.{Walk}
use Rattle.rt_bounds.specs.Holding.{BeginsAt, ComesFrom, ComesOnlyFrom}
use Rattle.rt_bounds.specs.declared.sources.Sources.{Sources}

-- no address of code, which stands for where an owner begins
abbrev pub nowhere : ℕ
nowhere = 2 ^ 32 - 1

-- the row of an address that nobody comes to
abbrev pub nobody : Sources
nobody = record { lowest = nowhere; highest = 0 }

-- the lowest and the highest of the addresses of which this is so
pub record AreEnds (B : ℕ → Type 0) (row : Sources) : Type 0 where
  pub low : (from : ℕ) → B from → row.lowest ≤ from
  pub high : (from : ℕ) → B from → from ≤ row.highest
  pub is_low : B row.lowest
  pub is_high : B row.highest

-- it is so of none, or these are the lowest and the highest
abbrev pub IsSpan : (ℕ → Type 0) → Sources → Type 0
IsSpan B row = (((from : ℕ) → ¬ B from) × (row.lowest ≡ nowhere) × (row.highest ≡ 0)) ⊎ AreEnds B row

-- a row with one more
abbrev pub widened : Sources → ℕ → Sources
widened row from = record { lowest = min row.lowest from; highest = max row.highest from }

-- rows with one more address that leads to one, if that is there
abbrev pub added_at : List Sources → ℕ → ℕ → Option Sources → List Sources
added_at rows from to None = rows
added_at rows from to (Some row) = slice_set rows to (widened row from)

abbrev pub added : List Sources → ℕ → ℕ → List Sources
added rows from to = added_at rows from to (slice_get rows to)

-- rows with an address that leads to each of these
abbrev pub added_all : List Sources → ℕ → List ℕ → List Sources
added_all rows from [] = rows
added_all rows from (to ∷ tos) = added_all (added rows from to) from tos

-- rows with all that a line at an address leads to for the same owner
abbrev pub with_line : Owner → Instr × Option Note → ℕ → List Sources → List Sources
with_line owner line at rows = if ends_init line.0 owner then rows else added_all rows at (targets line.0 at)

-- the same where there is a line, and the owner comes to it
abbrev pub with_address : Owner → ℕ → List Sources → Option (Instr × Option Note) → Option Nesting → List Sources
with_address owner at rows (Some line) (Some nesting) = with_line owner line at rows
with_address owner at rows line nesting = rows

-- whether a row tells of this address alone
abbrev pub is_only : ℕ → Option Sources → Bool
is_only from None = false
is_only from (Some row) = (row.lowest == from) && (row.highest == from)

-- rows of starts: as far apart as can be
abbrev pub with_start : List Sources → ℕ → List Sources
with_start rows to = added (added rows 0 to) nowhere to

-- rows of so many addresses tell from which of these each is come to
pub record AreSpans (A : ℕ → ℕ → Type 0) (count : ℕ) (rows : List Sources) : Type 0 where
  pub size : length rows ≡ count
  pub each : (to : ℕ) (row : Sources) → slice_get rows to ≡ Some row → IsSpan (λ from. A from to) row

-- one of the first of these visits is at an address
pub record StartsBelow (count : ℕ) (starts : List Visit) (to : ℕ) : Type 0 where
  pub index : ℕ
  pub below : index < count
  pub visit : Visit
  pub there : slice_get starts index ≡ Some visit
  pub at : visit.address ≡ to

-- one of them is
abbrev pub StartsAt : List Visit → ℕ → Type 0
StartsAt starts to = StartsBelow (length starts) starts to

-- the sources by which the first of these visits are come to
abbrev pub Begun : List Visit → ℕ → ℕ → ℕ → Type 0
Begun starts count f t = ((f ≡ 0) ⊎ (f ≡ nowhere)) × StartsBelow count starts t

-- a visit of an address with nothing open
abbrev pub visit_at : ℕ → Visit
visit_at address = record { address = address; nesting = record { start = 0; end = 0 } }

-- whether `init` ends on a line to which it comes
abbrev pub serves : Option (Instr × Option Note) → Option Nesting → Bool
serves (Some line) (Some nesting) = ends_init line.0 Starting
serves line nesting = false

-- whether it does on the line before an address
abbrev pub is_served : Image → Walk → ℕ → Bool
is_served img init to =
    if to == 0 then false else serves (slice_get img.code (to - 1)) (found init.table (to - 1))

-- these visits are at the addresses before this one behind the end of `init`
abbrev pub AreServed : Image → Walk → ℕ → List Visit → Type 0
AreServed img init count starts = (to : ℕ)
    → ((to < count) → is_served img init to ≡ true → StartsAt starts to)
    × (StartsAt starts to → is_served img init to ≡ true)

module _ (img : Image) (owner : Owner) where
  -- an owner begins at an address: its code does, or `init` goes on there to the thread
  abbrev pub BeginsHere : ℕ → Type 0
  BeginsHere to = BeginsAt img owner to
      ⊎ ((p : Point) × (q : Point) × IsPoint img p × LeadsTo img p q × (p.owner ≢ owner) × (q.owner ≡ owner)
      × (q.address ≡ to))

  -- these visits are where an owner begins
  abbrev pub AreStarts : List Visit → Type 0
  AreStarts starts = (to : ℕ) → (BeginsHere to → StartsAt starts to) × (StartsAt starts to → BeginsHere to)

  -- where an owner begins its sources are as far apart as can be
  abbrev pub IsExtreme : ℕ → ℕ → Type 0
  IsExtreme from to = ((from ≡ 0) ⊎ (from ≡ nowhere)) × BeginsHere to

  -- an address is come to from another, or that stands for where the owner begins
  abbrev pub IsSource : ℕ → ℕ → Type 0
  IsSource from to = ComesFrom img owner from to ⊎ IsExtreme from to

  -- where an owner comes to each address from, all of which are in the code
  abbrev pub AreSources : List Sources → Type 0
  AreSources rows = StaysInCode img × AreSpans IsSource (length img.code) rows

  -- the sources by which the lines before this one are come to and lead on
  abbrev pub AreSourcesBelow : ℕ → List Sources → Type 0
  AreSourcesBelow count rows =
      AreSpans (λ from to. (ComesFrom img owner from to × (from < count)) ⊎ IsExtreme from to) (length img.code) rows

  -- from an address a slot holds what it held after the line before
  pub record GoesBack (slot at : ℕ) : Type 0 where
    pub before : ℕ
    pub next : at ≡ suc before
    pub line : Instr × Option Note
    pub stands : slice_get img.code at ≡ Some line
    pub keeps : written_slot line.0 ≢ Some slot
    pub only : ComesOnlyFrom img owner before at

-- Lines with one way in and one way out.
use Rattle.std.specs.Prelude.{◌≡◌, ◌⊎◌, ℕ, suc, ◌-◌, ◌≤◌, ◌==◌, ◌&&◌, nat_le, Bool, true, false, if◌then◌else◌}
use Rattle.std.specs.Prelude.{not, List, [], ◌∷◌, length, slice_get, Option, Some, None}
use Rattle.rt_code.specs.Image.{Image}
use Rattle.rt_code.specs.declared.instr.Instr.{Instr}
use Rattle.rt_code.specs.declared.instr.Instr.TheVariants as instr
use Rattle.rt_code.specs.declared.instr.Note.{Note}
use Rattle.rt_points.specs.Leading.{IsPoint, LeadsTo}
use Rattle.rt_points.specs.Point.{Point}
use Rattle.rt_points.specs.declared.point.Owner.{Owner}
use Rattle.rt_points.specs.declared.point.Opened.{Opened}
use Rattle.rt_judge.specs.Inside.Exits.{targets, ends_init}
use Rattle.rt_judge.specs.Inside.Tables.{found}
use Rattle.rt_judge.specs.Inside.Walks.{reached_by}
use Rattle.rt_judge.specs.declared.nesting.Nesting.{Nesting}
use Rattle.rt_judge.specs.declared.walk.Walk.{Walk}
use Rattle.rt_bounds.specs.Holding.{BeginsAt}
use Rattle.rt_bounds.specs.declared.shape.Exit.{Exit}
use Rattle.rt_bounds.specs.declared.shape.Lines.{Lines}
use Rattle.rt_bounds.specs.declared.shape.Leaving.{Leaving}
use Rattle.rt_bounds.specs.declared.shape.Leaving.TheVariants.{Stays, Parts, Ends}
use Rattle.rt_bounds.specs.declared.sources.Sources.{Sources}

-- whether an address is among lines
abbrev pub has : Lines → ℕ → Bool
has ls a = nat_le ls.first a && nat_le a ls.last

abbrev pub Has : Lines → ℕ → Type 0
Has ls a = (ls.first ≤ a) × (a ≤ ls.last)

-- whether sources of an address are lines, or the line before, where it is the head
abbrev pub is_closed_by : Lines → ℕ → ℕ → Option Sources → Bool
is_closed_by ls head a None = false
is_closed_by ls head a (Some row) =
    nat_le (if a == head then ls.first - 1 else ls.first) row.lowest && nat_le row.highest ls.last

-- how an instruction leads out of lines, by where it leads to
abbrev pub leaving_one : Lines → ℕ → Leaving
leaving_one ls to = if has ls to then Stays else Ends

abbrev pub leaving_two : Lines → ℕ → ℕ → ℕ → Leaving
leaving_two ls jump next to =
    if has ls next
    then (if has ls to then Stays else Parts (record { jump = jump; stay = next; out = to }))
    else (if has ls to then Parts (record { jump = jump; stay = to; out = next }) else Ends)

abbrev pub leaving_among : Lines → ℕ → List ℕ → Leaving
leaving_among ls at [] = Ends
leaving_among ls at (to ∷ []) = leaving_one ls to
leaving_among ls at (next ∷ to ∷ more) = leaving_two ls at next to

-- and by who runs there
abbrev pub leaving_by : Lines → Owner → Instr → ℕ → Leaving
leaving_by ls owner i at = if ends_init i owner then Ends else leaving_among ls at (targets i at)

-- how the line at an address leads out of lines, if the owner comes there
abbrev pub leaving_at : Lines → Owner → ℕ → Option (Instr × Option Note) → Option Nesting → Leaving
leaving_at ls owner at (Some line) (Some nesting) = leaving_by ls owner line.0 at
leaving_at ls owner at line nesting = Stays

-- where these targets lead to in lines, if all of them that are there are one
abbrev pub head_among : Lines → List ℕ → Option ℕ
head_among ls [] = None
head_among ls (to ∷ []) = if has ls to then Some to else None
head_among ls (next ∷ to ∷ more) = if has ls to && not (to == next) then None else Some next

-- where the line at an address leads to in lines, if the owner comes there and goes on
abbrev pub head_at : Lines → Owner → ℕ → Option (Instr × Option Note) → Option Nesting → Option ℕ
head_at ls owner at (Some line) (Some nesting) =
    if ends_init line.0 owner then None else head_among ls (targets line.0 at)
head_at ls owner at line nesting = None

-- where the line before lines leads to in them
abbrev pub head_of : Image → Owner → Walk → Lines → Option ℕ
head_of img owner walk ls =
    if ls.first == 0 then None
    else head_at ls owner (ls.first - 1) (slice_get img.code (ls.first - 1)) (found walk.table (ls.first - 1))

-- the lines that a jump leads back over
abbrev pub lines_by : Instr → ℕ → Option Lines
lines_by (instr.Jump first) last = if nat_le first last then Some (record { first = first; last = last }) else None
lines_by (instr.JumpZ slot first) last =
    if nat_le first last then Some (record { first = first; last = last }) else None
lines_by i last = None

-- those of the line at an address, if the owner comes there
abbrev pub lines_at : ℕ → Option (Instr × Option Note) → Option Nesting → Option Lines
lines_at last (Some line) (Some nesting) = lines_by line.0 last
lines_at last line nesting = None

-- the slot that an instruction looks at to jump
abbrev pub jump_slot : Instr → Option ℕ
jump_slot (instr.JumpZ slot to) = Some slot
jump_slot i = None

-- and that of a line, where there is one
abbrev pub jump_at : Option (Instr × Option Note) → Option ℕ
jump_at None = None
jump_at (Some line) = jump_slot line.0

-- at each of the lines that the owner comes to the sources are as they have to be
abbrev pub AllClosed : Walk → Lines → List Sources → ℕ → Type 0
AllClosed walk ls sources head =
    (a : ℕ) (nesting : Nesting) → Has ls a → found walk.table a ≡ Some nesting
    → is_closed_by ls head a (slice_get sources a) ≡ true

-- at least so many sections are open at each of the lines that the owner comes to
abbrev pub AllOpen : Walk → Lines → ℕ → Type 0
AllOpen walk ls least = (a : ℕ) (inside : List Opened) → Has ls a → reached_by walk a ≡ Some inside
    → least ≤ length inside

-- at least as many as at one of them
pub record KeepsFrom (walk : Walk) (ls : Lines) (jump : ℕ) : Type 0 where
  pub inside : List Opened
  pub there : reached_by walk jump ≡ Some inside
  pub all : AllOpen walk ls (length inside)

module _ (img : Image) (owner : Owner) (walk : Walk) (ls : Lines) where
  -- how the line at an address leads out
  abbrev pub leaving : ℕ → Leaving
  leaving a = leaving_at ls owner a (slice_get img.code a) (found walk.table a)

  -- one of the lines leads out so, and no other does
  pub record LeavesOnce (e : Exit) : Type 0 where
    pub jump : Has ls e.jump
    pub parts : leaving e.jump ≡ Parts e
    pub others : (a : ℕ) → Has ls a → (a ≡ e.jump) ⊎ (leaving a ≡ Stays)

module _ (img : Image) (owner : Owner) (ls : Lines) where
  -- a point of the owner among the lines
  pub record IsAmong (p : Point) : Type 0 where
    pub point : IsPoint img p
    pub mine : p.owner ≡ owner
    pub inside : Has ls p.address

  -- they are come to from nowhere else, but from the line before at the head
  pub record AreClosed (head : ℕ) : Type 0 where
    pub begins : (a : ℕ) → BeginsAt img owner a → ¬ Has ls a
    pub entered : (p q : Point) → IsPoint img p → LeadsTo img p q → IsAmong q
        → (p.owner ≡ owner) × (Has ls p.address ⊎ ((suc p.address ≡ ls.first) × (q.address ≡ head)))

  -- a jump among the lines leads on in them, or out of them
  pub record IsExit (e : Exit) : Type 0 where
    pub at : Point
    pub among : IsAmong at
    pub here : at.address ≡ e.jump
    pub slot : ℕ
    pub to : ℕ
    pub told : Option Note
    pub stands : slice_get img.code e.jump ≡ Some (instr.JumpZ slot to, told)
    pub parts : ((e.stay ≡ suc e.jump) × (e.out ≡ to)) ⊎ ((e.stay ≡ to) × (e.out ≡ suc e.jump))
    pub stays : Has ls e.stay
    pub leads_out : ¬ Has ls e.out

  -- all else leads on in the lines
  pub record IsOneExit (e : Exit) : Type 0 where
    pub exit : IsExit e
    pub goes_on : (p : Point) → IsAmong p → (q : Point) × LeadsTo img p q
    pub left : (p q : Point) → IsAmong p → LeadsTo img p q
        → (q.owner ≡ owner) × (Has ls q.address ⊎ ((p.address ≡ e.jump) × (q.address ≡ e.out)))

  -- the lines are come to at the head alone, and led out of by one jump, where no more sections are open than at each of
  -- them
  pub record IsShape (head : ℕ) (e : Exit) : Type 0 where
    pub closed : AreClosed head
    pub one : IsOneExit e
    pub deepest : (p q : Point) → IsAmong p → IsAmong q → p.address ≡ e.jump → length p.inside ≤ length q.inside

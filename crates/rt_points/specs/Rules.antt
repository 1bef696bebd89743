-- What is asked of an image, at each of its points: seven rules. They are the stack resource policy (Baker, Stack-Based
-- Scheduling of Realtime Processes, 1991) as RTIC 1 keeps it with BASEPRI and PRIMASK (the RTIC 1 book, critical
-- sections), read off the code alone.
use Rattle.std.specs.Prelude.{◌≡◌, ◌≢◌, ℕ, ◌%◌, ◌<◌, ◌≤◌, Bool, true, false, List, [], ◌∷◌, length}
use Rattle.std.specs.Prelude.{Option, Some, None}
use Rattle.std.specs.List.{AllByRecursion}
use Rattle.rt_ids.specs.Choice.{IsIn}
use Rattle.rt_ids.specs.declared.ids.BodyId.TheVariants as body
use Rattle.rt_ids.specs.declared.ids.Section.{Section}
use Rattle.rt_code.specs.Access.{Access, Loads, Stores, cell_of}
use Rattle.rt_code.specs.Image.{Image}
use Rattle.rt_code.specs.Operands.{slots_of}
use Rattle.rt_code.specs.Runnable.{HaveNumbersApart, HaveImplementedValues}
use Rattle.rt_code.specs.declared.instr.Instr.{Instr}
use Rattle.rt_code.specs.declared.instr.Instr.TheVariants as instr
use Rattle.rt_code.specs.declared.instr.Note.{Note}
use Rattle.rt_code.specs.declared.instr.Note.TheVariants as note
use Rattle.rt_points.specs.Point.{Owner, Starting, Thread, Handling, SectionKind, Mark, Raise, Mask, Opened, Point}
use Rattle.rt_points.specs.Point.{sections}
use Rattle.rt_points.specs.Leading.{IsPoint, StandsAt, inside_after}
use Rattle.rt_points.specs.ExecutionPriority.{owner_value, frame_of, execution_priority}
use Rattle.rt_points.specs.Stack.{stack_need}
use Rattle.rt_points.specs.declared.rule.TheConstants.{MOST_OPEN, STACK_BYTES}

-- First rule: whichever way an owner's code comes to an address, the same sections are open there, and nowhere too
-- many. It is said of addresses without an instruction too.
pub record NestsInOneWay (img : Image) : Type 0 where
  pub one : (p q : Point) → IsPoint img p → IsPoint img q → p.owner ≡ q.owner → p.address ≡ q.address → p.inside
      ≡ q.inside
  pub few : (p : Point) → IsPoint img p → length p.inside ≤ MOST_OPEN

-- Second rule: interrupts have numbers of their own, enabled or not; priority values have implemented bits alone
-- (ARMv7-M Architecture Reference Manual, section B1.5.4); and the stack is whole pairs of words, not too large, and
-- enough.
pub record HasRightNumbers (img : Image) : Type 0 where
  pub numbers : HaveNumbersApart img.irqs
  pub values : HaveImplementedValues img.bits img.irqs
  pub stack_pairs : img.stack_bytes % 8 ≡ 0
  pub stack_small : img.stack_bytes ≤ STACK_BYTES
  pub stack_enough : stack_need img ≤ img.stack_bytes

-- Third rule: each point has an instruction.
abbrev pub StaysInCode : Image → Type 0
StaysInCode img = (p : Point) → IsPoint img p → p.address < length img.code

-- the instructions that may be used: none that computes the number of a cell, sets the alarm, or calls a body
abbrev pub is_supported : Instr → Bool
is_supported (instr.LoadAt d c s) = false
is_supported (instr.StoreAt c s a) = false
is_supported (instr.Alarm s irq) = false
is_supported instr.NoAlarm = false
is_supported (instr.Call row s) = false
is_supported instr.Back = false
is_supported i = true

-- the cell that an instruction touches, where it names one
abbrev pub touched_cell : Instr → Option Access
touched_cell (instr.Load d c) = Some (Loads c)
touched_cell (instr.Store c s) = Some (Stores c)
touched_cell i = None

-- the cell of an access, where there is one, is one of so many
abbrev pub HasItsCell : ℕ → Option Access → Type 0
HasItsCell cells None = Unit {0}
HasItsCell cells (Some a) = cell_of a < cells

-- a return is a handler's, serving interrupts is the end of `init`, and neither is done with a section open
abbrev pub MayEnd : Owner → List Opened → Instr → Type 0
MayEnd owner inside instr.Ret = ((index : ℕ) × (owner ≡ Handling index)) × (inside ≡ [])
MayEnd owner inside instr.Serve = (owner ≡ Starting) × (inside ≡ [])
MayEnd owner inside i = Unit {0}

-- the instruction at a point may be used there: it is a supported one, its slots and its cell are there, and it ends a
-- job only where it may
pub record IsOperable (img : Image) (p : Point) (i : Instr) : Type 0 where
  pub supported : is_supported i ≡ true
  pub slots : AllByRecursion (λ slot. slot < frame_of img p.owner) (slots_of i)
  pub cell : HasItsCell (length img.cells) (touched_cell i)
  pub ends : MayEnd p.owner p.inside i

-- Fourth rule: each instruction that is come to is one of those that may be used, has its slots in its owner's frame
-- and its cell in memory, and ends a job where it may.
abbrev pub OperatesWell : Image → Type 0
OperatesWell img = (p : Point) (i : Instr) (told : Option Note) → StandsAt img p i told → IsOperable img p i

-- whether an instruction is one on which a section may be entered
abbrev pub opens : Instr → Bool
opens instr.Mark = true
opens (instr.Raise d v) = true
opens (instr.Mask d) = true
opens i = false

-- the instruction on which a section is left: the one that undoes how it was entered
abbrev pub closing_instr : SectionKind → Instr
closing_instr Mark = instr.Mark
closing_instr (Raise slot value) = instr.Restore slot
closing_instr (Mask slot) = instr.Unmask slot

-- the innermost open section is this one, and the instruction closes it
abbrev pub ClosesInnermost : List Opened → Section → Instr → Type 0
ClosesInnermost [] x i = ⊥
ClosesInnermost (o ∷ outer) x i = (o.section ≡ x) × (i ≡ closing_instr o.kind)

-- the instruction is a jump, and it is the thread that runs
abbrev pub JumpsInThread : Owner → Instr → Type 0
JumpsInThread owner (instr.Jump l) = owner ≡ Thread
JumpsInThread owner i = ⊥

-- a note is where it may be: on an instruction that opens or closes the section as it should, or on the end of `init`
-- or of `idle`
abbrev pub StandsOn : Owner → List Opened → Option Note → Instr → Type 0
StandsOn owner inside None i = Unit {0}
StandsOn owner inside (Some (note.Enter x)) i = opens i ≡ true
StandsOn owner inside (Some (note.Leave x)) i = ClosesInnermost inside x i
StandsOn owner inside (Some (note.End body.Init)) i = i ≡ instr.Serve
StandsOn owner inside (Some (note.End body.Idle)) i = JumpsInThread owner i
StandsOn owner inside (Some n) i = ⊥

-- a note is that of the entering of a section
abbrev pub IsEnter : Option Note → Type 0
IsEnter (Some (note.Enter x)) = Unit {0}
IsEnter told = ⊥

-- a note is that of the leaving of a section
abbrev pub IsLeave : Option Note → Type 0
IsLeave (Some (note.Leave x)) = Unit {0}
IsLeave told = ⊥

-- an instruction that changes a mask has its note
abbrev pub HasItsNote : Instr → Option Note → Type 0
HasItsNote (instr.Raise d v) told = IsEnter told
HasItsNote (instr.Mask d) told = IsEnter told
HasItsNote (instr.Restore s) told = IsLeave told
HasItsNote (instr.Unmask s) told = IsLeave told
HasItsNote instr.Serve told = told ≡ Some (note.End body.Init)
HasItsNote i told = Unit {0}

-- the slot that an instruction writes
abbrev pub written_slot : Instr → Option ℕ
written_slot (instr.Set d v) = Some d
written_slot (instr.Copy d s) = Some d
written_slot (instr.Calc op d a b) = Some d
written_slot (instr.Load d c) = Some d
written_slot (instr.LoadAt d c s) = Some d
written_slot (instr.Clock d) = Some d
written_slot (instr.Raise d v) = Some d
written_slot (instr.Mask d) = Some d
written_slot i = None

-- this slot holds what a mask was before a section of the kind
abbrev pub Saves : SectionKind → ℕ → Type 0
Saves Mark d = ⊥
Saves (Raise slot value) d = d ≡ slot
Saves (Mask slot) d = d ≡ slot

-- a slot that is written, if one is, holds no mask of an open section
abbrev pub IsUnsaved : List Opened → Option ℕ → Type 0
IsUnsaved inside None = Unit {0}
IsUnsaved inside (Some d) = AllByRecursion (λ o. ¬ Saves o.kind d) inside

-- a section of this kind masks by PRIMASK
abbrev pub IsMask : SectionKind → Type 0
IsMask Mark = ⊥
IsMask (Raise slot value) = ⊥
IsMask (Mask slot) = Unit {0}

-- a mask is set where it has an effect and can be put back: BASEPRI to a value that is not 0, which would mask nothing,
-- and below the execution priority; PRIMASK not in `init`, nor twice. A value's unimplemented bits count here; on a
-- processor they read as 0.
abbrev pub MasksWell : Image → Point → Instr → Type 0
MasksWell img p (instr.Raise d v) = (0 < v) × (v < execution_priority img p.owner p.inside)
MasksWell img p (instr.Mask d) = (p.owner ≢ Starting) × AllByRecursion (λ o. ¬ IsMask o.kind) p.inside
MasksWell img p i = Unit {0}

-- at a point the note and the instruction fit each other and what is open there
pub record IsNotedWell (img : Image) (p : Point) (i : Instr) (told : Option Note) : Type 0 where
  pub stands : StandsOn p.owner p.inside told i
  pub has : HasItsNote i told
  pub unsaved : IsUnsaved p.inside (written_slot i)
  pub masks : MasksWell img p i

-- Fifth rule: at each point the note stands where it may, an instruction that changes a mask has its note, what an open
-- section saved is not overwritten, and masks are set where they can be.
abbrev pub NotesWell : Image → Type 0
NotesWell img = (p : Point) (i : Instr) (told : Option Note) → StandsAt img p i told → IsNotedWell img p i told

-- a section is entered at a point, by this instruction
abbrev pub EntersAt : Image → Point → Instr → Section → Type 0
EntersAt img p i x = StandsAt img p i (Some (note.Enter x))

-- the execution priority behind the entering of a section at a point, as a priority value
abbrev pub priority_after : Image → Point → Instr → Section → ℕ
priority_after img p i x = execution_priority img p.owner (inside_after i (Some (note.Enter x)) p.inside)

-- Sixth rule: whoever enters a section is not inside it, and the section holds off everyone who enters it anywhere,
-- `init` aside.
pub record HoldsOff (img : Image) (p : Point) (i : Instr) (x : Section) : Type 0 where
  pub free : ¬ IsIn (sections p.inside) x
  pub others : (q : Point) (j : Instr) → q.owner ≢ Starting → EntersAt img q j x
      → priority_after img p i x ≤ owner_value img q.owner

-- at each point where a section is entered it is free, and holds off all others that enter it
abbrev pub EntersWell : Image → Type 0
EntersWell img = (p : Point) (i : Instr) (x : Section) → EntersAt img p i x → HoldsOff img p i x

-- a point outside `init` at which a cell is touched
pub record Touches (img : Image) (cell : ℕ) (p : Point) : Type 0 where
  pub outside : p.owner ≢ Starting
  pub instr : Instr
  pub told : Option Note
  pub stands : StandsAt img p instr told
  pub access : Access
  pub by : touched_cell instr ≡ Some access
  pub touches : cell_of access ≡ cell

-- an access that writes
abbrev pub IsStore : Access → Type 0
IsStore (Loads cell) = ⊥
IsStore (Stores cell) = Unit {0}

-- A cell for which owners contend: one outside `init` stores it, and those outside `init` that touch it have not all
-- one priority value.
pub record IsContended (img : Image) (cell : ℕ) : Type 0 where
  pub storer : Point
  pub stored : Touches img cell storer
  pub is_store : IsStore stored.access
  pub one : Point
  pub other : Point
  pub one_touches : Touches img cell one
  pub other_touches : Touches img cell other
  pub differ : owner_value img one.owner ≢ owner_value img other.owner

-- outside `init` the cell is touched inside this section alone
abbrev pub IsGuardedBy : Image → ℕ → Section → Type 0
IsGuardedBy img cell x = (p : Point) → Touches img cell p → IsIn (sections p.inside) x

-- Seventh rule: each cell for which owners contend has a section inside which alone it is touched, `init` aside.
abbrev pub GuardsCells : Image → Type 0
GuardsCells img = (cell : ℕ) → IsContended img cell → (x : Section) × IsGuardedBy img cell x

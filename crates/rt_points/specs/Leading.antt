-- The points of an image: those that code comes to, whatever the data, the interrupts and the order of things. They are
-- the least set with the entries that is closed under what instructions lead to, the least fixed point of a data flow
-- analysis (Kildall, A Unified Approach to Global Program Optimization, 1973). The code has a table and a list of what
-- is yet to be looked at.
use Rattle.std.specs.Prelude.{◌≡◌, ℕ, suc, ◌⊎◌, List, [], ◌∷◌, drop, slice_get, Option, Some}
use Rattle.rt_ids.specs.Lists.{then_from}
use Rattle.rt_code.specs.Image.{Image}
use Rattle.rt_code.specs.declared.image.Handler.{Handler}
use Rattle.rt_code.specs.declared.instr.Instr.{Instr}
use Rattle.rt_code.specs.declared.instr.Instr.TheVariants as instr
use Rattle.rt_code.specs.declared.instr.Note.{Note}
use Rattle.rt_code.specs.declared.instr.Note.TheVariants as note
use Rattle.rt_points.specs.Point.{Owner, Starting, Thread, Handling, SectionKind, Mark, Raise, Mask, Opened, Point}

-- the handler of the interrupt at an index, where it is enabled
abbrev pub handler_at : Image → ℕ → Option Handler
handler_at img index = then_from (slice_get img.irqs index) (λ row. row.handler)

-- an instruction at an address leads to an address
abbrev pub LeadsOn : Instr → ℕ → ℕ → Type 0
LeadsOn (instr.Jump l) at to = to ≡ l
LeadsOn (instr.JumpZ s l) at to = (to ≡ suc at) ⊎ (to ≡ l)
LeadsOn instr.Wait at to = to ≡ at
LeadsOn (instr.Call row s) at to = ⊥
LeadsOn instr.Back at to = ⊥
LeadsOn instr.Ret at to = ⊥
LeadsOn i at to = to ≡ suc at

-- who runs after an instruction: where `init` serves interrupts, the thread
abbrev pub owner_after : Instr → Owner → Owner
owner_after instr.Serve Starting = Thread
owner_after i owner = owner

-- how the instruction on which a section is entered holds others off
abbrev pub kind_of : Instr → SectionKind
kind_of (instr.Raise d v) = Raise d v
kind_of (instr.Mask d) = Mask d
kind_of i = Mark

-- the open sections after a line: what is left is the innermost
abbrev pub inside_after : Instr → Option Note → List Opened → List Opened
inside_after i (Some (note.Enter x)) inside = record { section = x; kind = kind_of i } ∷ inside
inside_after i (Some (note.Leave x)) inside = drop 1 inside
inside_after i told inside = inside

-- a point leads to another by one line of the code
pub record LeadsTo (img : Image) (p q : Point) : Type 0 where
  pub line : Instr × Option Note
  pub stands : slice_get img.code p.address ≡ Some line
  pub address : LeadsOn line.0 p.address q.address
  pub owner : q.owner ≡ owner_after line.0 p.owner
  pub inside : q.inside ≡ inside_after line.0 line.1 p.inside

-- the point where someone begins, with nothing open
abbrev pub starts_at : ℕ → Owner → Point
starts_at address owner = record { address = address; owner = owner; inside = [] }

-- the points of an image
pub data IsPoint (img : Image) : Point → Type 0 where
  -- `init` begins at the address 0
  Begins : IsPoint img (starts_at 0 Starting)
  -- and each enabled interrupt at its entry
  Enters : (index : ℕ) → (h : Handler) → handler_at img index ≡ Some h
      → IsPoint img (starts_at h.entry (Handling index))
  Leads : (p : Point) → (q : Point) → IsPoint img p → LeadsTo img p q → IsPoint img q

-- this line stands at a point
abbrev pub StandsAt : Image → Point → Instr → Option Note → Type 0
StandsAt img p i told = IsPoint img p × (slice_get img.code p.address ≡ Some (i, told))

-- Which lines stand at a point of an image that keeps the rules, by what they do to the sections.
use Rattle.std.specs.Prelude.{◌≡◌, ℕ, Bool, true, false, List, [], ◌∷◌, Option, Some, None}
use Rattle.rt_ids.specs.declared.ids.BodyId.TheVariants as body
use Rattle.rt_ids.specs.declared.ids.Section.{Section}
use Rattle.rt_code.specs.declared.instr.Instr.{Instr}
use Rattle.rt_code.specs.declared.instr.Instr.TheVariants as instr
use Rattle.rt_code.specs.declared.instr.Note.{Note}
use Rattle.rt_code.specs.declared.instr.Note.TheVariants as note
use Rattle.rt_points.specs.declared.point.SectionKind.{SectionKind}
use Rattle.rt_points.specs.declared.point.SectionKind.TheVariants.{Mark, Raise, Mask}
use Rattle.rt_points.specs.declared.point.Opened.{Opened}
use Rattle.rt_points.specs.declared.point.Owner.TheVariants.{Starting, Thread, Handling}
use Rattle.rt_points.specs.Point.{Point}
use Rattle.rt_points.specs.Rules.{closing_instr, IsUnsaved, written_slot}

-- the instruction that opens a section of a kind
abbrev pub opening_instr : SectionKind → Instr
opening_instr Mark = instr.Mark
opening_instr (Raise slot value) = instr.Raise slot value
opening_instr (Mask slot) = instr.Mask slot

-- an instruction that may be used, changes no mask, and ends no job
abbrev pub is_simple : Instr → Bool
is_simple (instr.LoadAt d c s) = false
is_simple (instr.StoreAt c s a) = false
is_simple (instr.Alarm s irq) = false
is_simple instr.NoAlarm = false
is_simple (instr.Raise d v) = false
is_simple (instr.Restore s) = false
is_simple (instr.Mask d) = false
is_simple (instr.Unmask s) = false
is_simple instr.Serve = false
is_simple (instr.Call row s) = false
is_simple instr.Back = false
is_simple instr.Ret = false
is_simple i = true

-- what a line is to the sections that are open at a point
pub data ActsOnSections (p : Point) (i : Instr) (told : Option Note) : Type 0 where
  -- no section opens or closes, and what open sections saved is kept
  Simply : is_simple i ≡ true → told ≡ None → IsUnsaved p.inside (written_slot i) → ActsOnSections p i told
  -- the thread begins anew
  Anew : (to : ℕ) → i ≡ instr.Jump to → told ≡ Some (note.End body.Idle) → p.owner ≡ Thread → ActsOnSections p i told
  Opens : (x : Section) → (kind : SectionKind) → i ≡ opening_instr kind → told ≡ Some (note.Enter x)
      → ActsOnSections p i told
  -- the innermost section closes
  Closes : (x : Section) → (kind : SectionKind) → (outer : List Opened)
      → p.inside ≡ record { section = x; kind = kind } ∷ outer → i ≡ closing_instr kind → told ≡ Some (note.Leave x)
      → ActsOnSections p i told
  EndsInit : i ≡ instr.Serve → told ≡ Some (note.End body.Init) → p.owner ≡ Starting → p.inside ≡ []
      → ActsOnSections p i told
  Returns : (index : ℕ) → i ≡ instr.Ret → told ≡ None → p.owner ≡ Handling index → p.inside ≡ []
      → ActsOnSections p i told

-- What holds of one step of code that stands, law by law: what it touches and does, what it does to masks and frames,
-- what it takes over and gives back, and how a job ends. Each is read off the definition; they are this project's own.
use Rattle.std.specs.Prelude.{◌≡◌, ℕ, suc, ◌^◌, ◌<◌, ◌⊎◌, Bool, true, false, List, ◌∷◌, length, slice_get}
use Rattle.std.specs.Prelude.{Option, Some, None, Contains}
use Rattle.std.specs.List.{AllByRecursion}
use Rattle.rt_actions.specs.Action.{Ends, Returns}
use Rattle.rt_actions.specs.Storage.{Storage, Runner, Starting, AtPriority}
use Rattle.rt_ids.specs.declared.ids.BodyId.TheVariants as body
use Rattle.rt_ids.specs.declared.ids.Section.{Section}
use Rattle.rt_code.specs.Access.{access_of}
use Rattle.rt_code.specs.Effect.{effect}
use Rattle.rt_code.specs.Leading.{LeadsTo, is_of_section, is_plain}
use Rattle.rt_code.specs.Masking.{EntersSection, LeavesSection, IsKindFor, opening_instr, closing_instr}
use Rattle.rt_code.specs.Owning.{SectionKind, OpenSection, Configuration, saved_slot, saved_slots, MayAccess}
use Rattle.rt_code.specs.Processor.{Processor}
use Rattle.rt_code.specs.Standing.{Stands, Goes, Calls, ComesBack, Finishes}
use Rattle.rt_code.specs.Standing.{HaveLeft, KeepsSaved, spend_step, processor_of}
use Rattle.rt_code.specs.declared.image.BodyRow.{BodyRow}
use Rattle.rt_code.specs.declared.instr.Instr.{Instr}
use Rattle.rt_code.specs.declared.instr.Instr.TheVariants as instr
use Rattle.rt_code.specs.declared.instr.Note.{Note}
use Rattle.rt_code.specs.declared.instr.Note.TheVariants as note
use Rattle.rt_code.specs.declared.processor.Request.{Request}
use Rattle.rt_code.specs.declared.processor.Request.TheVariants as request

module _ (st : Storage) (code : List (Instr × Option Note)) (bodies : List BodyRow) (thread : ℕ) (who : Runner)
    (n : ℕ) (s : Configuration) where
  -- the line at the job's address is this instruction with this note
  abbrev pub IsLine : Instr → Option Note → Type 0
  IsLine i told = slice_get code s.address ≡ Some (i, told)

  -- the code stands at a configuration, within so many steps
  abbrev pub Later : Configuration → Type 0
  Later t = Stands st code bodies thread who n t

  -- Step: a step is left to the job and to each open section, and the line touches what the job may touch. A plain line
  -- is silent or does the next action, and the code stands after it.
  pub record StepLaw : Type 0 where
    pub left : HaveLeft s.lefts
    pub line : Instr × Option Note
    pub there : IsLine line.0 line.1
    pub touches : MayAccess st who s (access_of line.0 (processor_of s 0 false))
    pub goes : is_plain line.1 ≡ true → (time basepri : ℕ) (primask : Bool) → time < 2 ^ 31
        → Goes st code bodies thread who line.1 basepri primask (spend_step s) Later
        (effect line.0 time (processor_of s basepri primask))

  -- a section opens by the kind that is asked for, with a slot of the frame that keeps no other mask
  pub record OpensByKind (x : Section) (i : Instr) : Type 0 where
    pub kind : SectionKind
    pub mask : IsKindFor st who who s.held x kind
    pub opens : i ≡ opening_instr (st.value (st.ceiling x)) kind
    pub slot : AllByRecursion (λ d. (d < length s.slots) × (¬ Contains (saved_slots s.held) d)) (saved_slot kind)

  -- the innermost section closes by the kind that it opened by
  pub record ClosesByKind (x : Section) (i : Instr) : Type 0 where
    pub kind : SectionKind
    pub outer : List OpenSection
    pub innermost : s.held ≡ record { section = x; kind = kind } ∷ outer
    pub closes : i ≡ closing_instr kind

  -- Masks: no other line writes a slot that keeps a mask, or changes a mask, but that `init` ends by serving
  -- interrupts.
  pub record MaskLaw : Type 0 where
    pub opens : (x : Section) (i : Instr) → IsLine i (Some (note.Enter x)) → OpensByKind x i
    pub closes : (x : Section) (i : Instr) → IsLine i (Some (note.Leave x)) → ClosesByKind x i
    pub kept : (i : Instr) (told : Option Note) → IsLine i told → is_of_section told ≡ false
        → (time basepri : ℕ) (primask : Bool) (p : Processor) (asked : Request)
        → LeadsTo s i time basepri primask p asked
        → KeepsSaved s.held s.slots p.slots × (p.basepri ≡ basepri)
        × ((p.primask ≡ primask) ⊎ ((told ≡ Some (note.End body.Init)) × (p.primask ≡ false)))

  -- Frames: a frame keeps its size. One more is pushed by a call of a body alone, from the job's own frame, and is off
  -- again at the body's end; a job returns from its own.
  pub record FrameLaw : Type 0 where
    pub long : (i : Instr) (time basepri : ℕ) (primask : Bool) (p : Processor) (asked : Request)
        → LeadsTo s i time basepri primask p asked → length p.slots ≡ length s.slots
    pub call : (i : Instr) (told : Option Note) → IsLine i told
        → (time basepri row from : ℕ) (primask : Bool) (p : Processor)
        → LeadsTo s i time basepri primask p (request.Call row from)
        → Calls st code bodies thread who row from (spend_step s) Later
    pub back : (t : ℕ) (i : Instr) → IsLine i (Some (note.End (body.Task t)))
        → (i ≡ instr.Back) × ComesBack st code bodies thread who t (spend_step s) Later
    pub off : (i : Instr) (told : Option Note) → IsLine i told
        → (time basepri : ℕ) (primask : Bool) (p : Processor) → LeadsTo s i time basepri primask p request.Back
        → (t : ℕ) × (told ≡ Some (note.End (body.Task t)))
    pub own : (i : Instr) (told : Option Note) → IsLine i told
        → (time basepri : ℕ) (primask : Bool) (p : Processor) → LeadsTo s i time basepri primask p request.Return
        → s.caller ≡ None

  -- Taking over: at the opening of a section what it guards, as others left it.
  abbrev pub TakingOver : Type 0
  TakingOver = (x : Section) (i : Instr) → IsLine i (Some (note.Enter x))
      → EntersSection st who x i (spend_step s) Later

  -- Giving back: at its closing what it guards, represented by its cells.
  abbrev pub GivingBack : Type 0
  GivingBack = (x : Section) (i : Instr) → IsLine i (Some (note.Leave x))
      → LeavesSection st who x i (spend_step s) Later

  -- Ends: `init`, `idle` and a job end with nothing open or in hands, and give back what their runner keeps; the
  -- thread goes on at its address.
  pub record EndLaw : Type 0 where
    pub init : (i : Instr) → IsLine i (Some (note.End body.Init))
        → (i ≡ instr.Serve) × (who ≡ Starting) × (suc s.address ≡ thread)
        × Finishes st code bodies thread who (Ends body.Init) (spend_step s)
    pub idle : (i : Instr) → IsLine i (Some (note.End body.Idle))
        → (i ≡ instr.Jump thread) × (who ≡ AtPriority 0)
        × Finishes st code bodies thread who (Ends body.Idle) (spend_step s)
    pub job : (i : Instr) (told : Option Note) → IsLine i told
        → (time basepri : ℕ) (primask : Bool) (p : Processor) → LeadsTo s i time basepri primask p request.Return
        → Finishes st code bodies thread who Returns (spend_step s)

-- Which images have a text that no other image over the same names has: each name that the text needs is in the tables
-- of names, and no name can be taken for another word or for two.
use Rattle.std.specs.Prelude.{◌≢◌, ℕ, ◌<◌, List, length, map, codes, Option, Some, None, [], ◌∷◌}
use Rattle.std.specs.List.{Contains, AllByRecursion}
use Rattle.rt_ids.specs.Lists.{AreDifferent}
use Rattle.rt_ids.specs.Names.{Names, AreNames}
use Rattle.rt_ids.specs.declared.ids.Section.{Section}
use Rattle.rt_ids.specs.declared.ids.Section.TheVariants as section
use Rattle.rt_code.specs.Image.{Image}
use Rattle.rt_ids.specs.Naming.{IsDeclared, IsTask, IsBody}
use Rattle.rt_code.specs.declared.instr.Instr.{Instr}
use Rattle.rt_code.specs.declared.instr.Instr.TheVariants as instr
use Rattle.rt_code.specs.declared.instr.Note.{Note}
use Rattle.rt_code.specs.declared.instr.Note.TheVariants as note

-- a tab, a line feed, a carriage return or a space
abbrev pub blanks : List ℕ
blanks = 9 ∷ 10 ∷ 13 ∷ 32 ∷ []

-- bytes without blanks, as one word of a line
abbrev pub IsWord : List ℕ → Type 0
IsWord bytes = AllByRecursion (λ byte. ¬ Contains blanks byte) bytes

-- a word without a dot
pub record IsPlain (bytes : List ℕ) : Type 0 where
  pub word : IsWord bytes
  pub plain : AllByRecursion (λ byte. byte ≢ 46) bytes

-- each name is a word without a dot, no two names of a kind are one, and no task is named as another body
pub record AreWritable (names : Names) : Type 0 where
  pub irqs : AllByRecursion (λ irq. IsPlain irq.0) names.irqs
  pub tasks : AllByRecursion IsPlain names.tasks
  pub shared : AllByRecursion IsPlain names.shared
  -- no task has the word of another body
  pub no_init : ¬ Contains names.tasks (codes "init")
  pub no_idle : ¬ Contains names.tasks (codes "idle")
  pub irqs_differ : AreDifferent (map (λ irq. irq.0) names.irqs)
  pub tasks_differ : AreDifferent names.tasks
  pub shared_differ : AreDifferent names.shared

-- names that an application may declare can be written
abbrev pub NamesAreWritable : Type 0
NamesAreWritable = (names : Names) → AreNames names → AreWritable names

-- a section has the name that its word is made of, where it is of a resource or a task
abbrev pub HasSection : Names → Section → Type 0
HasSection names (section.Res r) = r < length names.shared
HasSection names (section.Free t) = IsTask names t
HasSection names s = Unit {0}

-- the interrupt of an instruction has a name, where it pends one or sets its alarm
abbrev pub HasInstr : Names → Instr → Type 0
HasInstr names (instr.Post irq) = IsDeclared names irq
HasInstr names (instr.Alarm s irq) = IsDeclared names irq
HasInstr names i = Unit {0}

-- the section, the task or the body of a note has its name
abbrev pub HasNote : Names → Option Note → Type 0
HasNote names (Some (note.Enter s)) = HasSection names s
HasNote names (Some (note.Leave s)) = HasSection names s
HasNote names (Some (note.Placed t)) = IsTask names t
HasNote names (Some (note.Full t)) = IsTask names t
HasNote names (Some (note.Ready t)) = IsTask names t
HasNote names (Some (note.Start t s)) = IsTask names t
HasNote names (Some (note.Free t)) = IsTask names t
HasNote names (Some (note.Arm t s)) = IsTask names t
HasNote names (Some (note.Fire t)) = IsTask names t
HasNote names (Some (note.Cancel t s)) = IsTask names t
HasNote names (Some (note.Move t s a)) = IsTask names t
HasNote names (Some (note.End b)) = IsBody names b
HasNote names None = Unit {0}

-- an image each of whose names is in the tables, and is one word of its text
pub record IsListable (img : Image) : Type 0 where
  pub names : AreWritable img.names
  -- the name of a cell is one word
  pub cells : AllByRecursion (λ cell. IsWord cell.name) img.cells
  pub irqs : AllByRecursion (λ row. IsPlain row.name) img.irqs
  pub bodies : AllByRecursion (λ row. IsTask img.names row.task) img.bodies
  pub instrs : AllByRecursion (λ line. HasInstr img.names line.0) img.code
  pub notes : AllByRecursion (λ line. HasNote img.names line.1) img.code

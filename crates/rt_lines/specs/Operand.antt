-- The words behind the first word of a line, by their kinds: numbers, and names of interrupts, tasks, sections and
-- bodies. Of each kind it is said which values have a word, how that is written, and what a word is read as. A word
-- that is of no form is told from a name that stands in no table.
use Rattle.std.specs.Prelude.{ℕ, ◌<◌, ◌^◌, nat_eq, if◌then◌else◌, bytes_eq, codes, decimal, List, length, drop, Option}
use Rattle.std.specs.Prelude.{Result, Ok, Err}
use Rattle.std.specs.List.{starts_with}
use Rattle.std.specs.Option.{ok_or}
use Rattle.rt_ids.specs.Names.{Names, irq_of, task_index, resource_of}
use Rattle.rt_ids.specs.Naming.{irq_name, task_name, section_name, body_name, IsDeclared, IsTask, IsBody}
use Rattle.rt_ids.specs.Word.{is_identifier}
use Rattle.rt_ids.specs.declared.ids.BodyId.{BodyId}
use Rattle.rt_ids.specs.declared.ids.BodyId.TheVariants as body
use Rattle.rt_ids.specs.declared.ids.Section.{Section}
use Rattle.rt_ids.specs.declared.ids.Section.TheVariants as section
use Rattle.rt_lines.specs.Answers.{and_then, and_make}
use Rattle.rt_lines.specs.Numbers.{number_below}
use Rattle.rt_lines.specs.declared.operand.Wrong.{Wrong}
use Rattle.rt_lines.specs.declared.operand.Wrong.TheVariants as wrong

-- a kind of words
pub data OperandKind : Type 0 where
  -- a number below this bound, in decimal without a leading zero
  Number : (bound : ℕ) → OperandKind
  -- the names of declared interrupts; and of those, the names by which their numbers are written: two declared
  -- interrupts may have one number, which is written by the first name
  IrqName : OperandKind
  FirstIrqName : OperandKind
  -- the names of tasks, and of bodies
  TaskName : OperandKind
  BodyName : OperandKind
  -- the names of sections: of those of resources, of those of queues, and of all
  LockName : OperandKind
  QueueName : OperandKind
  SectionName : OperandKind

-- what words of a kind say; an interrupt is its number, a task the index of its declaration
abbrev pub OperandValue : OperandKind → Type 0
OperandValue (Number bound) = ℕ
OperandValue IrqName = ℕ
OperandValue FirstIrqName = ℕ
OperandValue TaskName = ℕ
OperandValue BodyName = BodyId
OperandValue LockName = Section
OperandValue QueueName = Section
OperandValue SectionName = Section

-- it is the section of a resource that there is
abbrev pub IsLock : Names → Section → Type 0
IsLock names (section.Res r) = r < length names.shared
IsLock names queue = ⊥

-- it is the section of a queue that there is; a ready queue is of one of the 256 levels
abbrev pub IsQueue : Names → Section → Type 0
IsQueue names (section.Res r) = ⊥
IsQueue names (section.Free t) = IsTask names t
IsQueue names (section.Ready p) = p < 2 ^ 8
IsQueue names section.Timer = Unit {0}

-- there is this section
abbrev pub IsSection : Names → Section → Type 0
IsSection names (section.Res r) = IsLock names (section.Res r)
IsSection names queue = IsQueue names queue

-- a value has a word of its kind
abbrev pub HasWord : Names → (k : OperandKind) → OperandValue k → Type 0
HasWord names (Number bound) n = n < bound
HasWord names IrqName irq = IsDeclared names irq
HasWord names FirstIrqName irq = IsDeclared names irq
HasWord names TaskName t = IsTask names t
HasWord names BodyName b = IsBody names b
HasWord names LockName x = IsLock names x
HasWord names QueueName x = IsQueue names x
HasWord names SectionName x = IsSection names x

-- the word of a value
abbrev pub word : Names → (k : OperandKind) → OperandValue k → List ℕ
word names (Number bound) n = decimal n
word names IrqName irq = irq_name names irq
word names FirstIrqName irq = irq_name names irq
word names TaskName t = task_name names t
word names BodyName b = body_name names b
word names LockName x = section_name names x
word names QueueName x = section_name names x
word names SectionName x = section_name names x

-- a number below this bound
abbrev pub number_at : ℕ → List ℕ → Result ℕ Wrong
number_at bound word = ok_or (number_below bound word) wrong.Form

-- what a name is found to be, where the word is a name
abbrev pub index_or_wrong : List ℕ → Option ℕ → Result ℕ Wrong
index_or_wrong word index = if is_identifier word then ok_or index wrong.Name else Err wrong.Form

-- the interrupt of this name
abbrev pub irq_at : Names → List ℕ → Result ℕ Wrong
irq_at names word = index_or_wrong word (irq_of names word)

-- the interrupt, where this is the name that its number is written by
abbrev pub if_first : Names → List ℕ → ℕ → Result ℕ Wrong
if_first names word irq = if bytes_eq (irq_name names irq) word then Ok irq else Err wrong.Form

-- the interrupt whose number is written by this name
abbrev pub first_irq_at : Names → List ℕ → Result ℕ Wrong
first_irq_at names word = and_then (irq_at names word) (if_first names word)

-- the task of this name
abbrev pub task_at : Names → List ℕ → Result ℕ Wrong
task_at names word = index_or_wrong word (task_index names word)

-- the body of this name
abbrev pub body_at : Names → List ℕ → Result BodyId Wrong
body_at names word =
    if bytes_eq word (codes "init") then Ok body.Init
    else if bytes_eq word (codes "idle") then Ok body.Idle else and_make (task_at names word) body.Task

-- the section of the resource of this name
abbrev pub lock_at : Names → List ℕ → Result Section Wrong
lock_at names word = and_make (index_or_wrong word (resource_of names word)) section.Res

-- the ready queue of this name
abbrev pub ready_named : List ℕ → Result Section Wrong
ready_named word = if starts_with nat_eq word (codes "ready.")
    then and_make (number_at (2 ^ 8) (drop 6 word)) section.Ready else Err wrong.Form

-- the queue of this name
abbrev pub queue_at : Names → List ℕ → Result Section Wrong
queue_at names word =
    if bytes_eq word (codes "timer.0") then Ok section.Timer
    else if starts_with nat_eq word (codes "free.") then and_make (task_at names (drop 5 word)) section.Free
    else ready_named word

-- the section of this name: a name that could be declared is a resource's
abbrev pub section_at : Names → List ℕ → Result Section Wrong
section_at names word = if is_identifier word then lock_at names word else queue_at names word

-- what a word of a kind is read as
abbrev pub read_at : (k : OperandKind) → Names → List ℕ → Result (OperandValue k) Wrong
read_at (Number bound) names word = number_at bound word
read_at IrqName names word = irq_at names word
read_at FirstIrqName names word = first_irq_at names word
read_at TaskName names word = task_at names word
read_at BodyName names word = body_at names word
read_at LockName names word = lock_at names word
read_at QueueName names word = queue_at names word
read_at SectionName names word = section_at names word

-- the level in the name of a section, where there is one, is of 8 bits
abbrev pub HasLevel : Section → Type 0
HasLevel (section.Ready level) = level < 2 ^ 8
HasLevel s = Unit {0}

-- The form of the code of a body that is fixed, whatever else a generator may choose (this project's own): the line at
-- its end, the two lines of each `emit` of a literal in a body without variables, and each line of a body that does no
-- more than emit literals and pend interrupts.
use Rattle.std.specs.Prelude.{◌≡◌, ℕ, ◌+◌, ◌==◌, List, [], ◌∷◌, ◌++◌, slice_get, Option, Some, None, option_map}
use Rattle.std.specs.Prelude.{if◌then◌else◌}
use Rattle.std.specs.List.{AllByRecursion}
use Rattle.rt_ids.specs.Lists.{is_some_and, or_zero}
use Rattle.rt_ids.specs.declared.ids.BodyId.{BodyId}
use Rattle.rt_ids.specs.declared.ids.BodyId.TheVariants as body
use Rattle.rt_app.specs.Bodies.{Member, member_at}
use Rattle.rt_app.specs.Handlers.{irq_number}
use Rattle.rt_app.specs.Level.{is_software}
use Rattle.rt_app.specs.Tree.{App, Expression, Num, Statement, Bind, Assign, Branch, Repeat, Locked, Emit, Pend, Spawns}
use Rattle.rt_app.specs.Tree.{Block, Empty, Then}
use Rattle.rt_app.specs.Variables.{variables}
use Rattle.rt_code.specs.declared.instr.Instr.{Instr}
use Rattle.rt_code.specs.declared.instr.Instr.TheVariants as instr
use Rattle.rt_code.specs.declared.instr.Note.TheVariants as note
use Rattle.rt_gen_queue.specs.Line.{Line, plain, line_with_note}

-- The last line of a body that begins at an address: `init` lets interrupts in, `idle` begins again, a hardware task
-- returns from its interrupt, and a software task goes back to its dispatcher.
abbrev pub end_line : App → BodyId → ℕ → Line
end_line app body.Init entry = line_with_note instr.Serve (note.End body.Init)
end_line app body.Idle entry = line_with_note (instr.Jump entry) (note.End body.Idle)
end_line app (body.Task n) entry =
    if is_some_and is_software (slice_get app.tasks n)
    then line_with_note instr.Back (note.End (body.Task n))
    else plain instr.Ret

-- the lines of a block that emits literals and pends interrupts and does nothing else, in a body without variables
abbrev pub fixed_block : App → Block → Option (List Line)
fixed_block app Empty = Some []
fixed_block app (Then (Emit (Num value)) rest) =
    option_map (λ lines. plain (instr.Set 0 value) ∷ plain (instr.Emit 0) ∷ lines) (fixed_block app rest)
fixed_block app (Then (Pend irq) rest) =
    option_map (λ lines. plain (instr.Post (or_zero (irq_number app irq))) ∷ lines) (fixed_block app rest)
fixed_block app (Then other rest) = None

-- the lines of such a body without arguments, before its end; a body that is not declared has none
abbrev pub fixed_body : App → Option Member → Option (List Line)
fixed_body app None = Some []
fixed_body app (Some m) = if m.args == 0 then fixed_block app m.body.block else None

-- the expressions that a statement emits, in the order of the text, those in its blocks too
abbrev mutual
  pub emitted_by : Statement → List Expression
  emitted_by (Bind x v) = []
  emitted_by (Assign x e offset) = []
  emitted_by (Branch e first second) = emitted first ++ emitted second
  emitted_by (Repeat x first last turn) = emitted turn
  emitted_by (Locked r inner offset) = emitted inner
  emitted_by (Emit e) = e ∷ []
  emitted_by (Pend i) = []
  emitted_by (Spawns s) = []

  -- the expressions that a block emits
  pub emitted : Block → List Expression
  emitted Empty = []
  emitted (Then s rest) = emitted_by s ++ emitted rest

-- the expressions that a body emits, none where it is not declared
abbrev pub emitted_of : Option Member → List Expression
emitted_of None = []
emitted_of (Some m) = emitted m.body.block

-- the body has no arguments, and brings in no variables
abbrev pub HasNoVariables : Option Member → Type 0
HasNoVariables None = Unit {0}
HasNoVariables (Some m) = m.args + variables m.body.block ≡ 0

-- the instruction is no `emit`
abbrev pub IsNoEmit : Instr → Type 0
IsNoEmit (instr.Emit s) = ⊥
IsNoEmit other = Unit {0}

-- none of the lines is an `emit`
abbrev pub EmitNothing : List Line → Type 0
EmitNothing lines = AllByRecursion (λ line. IsNoEmit line.0) lines

-- after these lines an `emit` of a slot: of a literal it is slot 0, which the line before sets
abbrev pub IsFixedEmit : Expression → List Line → ℕ → Type 0
IsFixedEmit (Num value) before slot =
    (slot ≡ 0) × (front : List Line) × (before ≡ front ++ plain (instr.Set 0 value) ∷ [])
IsFixedEmit other before slot = Unit {0}

-- the lines have an `emit` for each of these expressions, in this order, and no other
abbrev pub HasEmits : List Expression → List Line → Type 0
HasEmits [] lines = EmitNothing lines
HasEmits (e ∷ more) lines =
    (before : List Line) × (slot : ℕ) × (after : List Line) × (lines ≡ before ++ plain (instr.Emit slot) ∷ after)
    × EmitNothing before × IsFixedEmit e before slot × HasEmits more after

-- Lines from an address on have the form of a body's code: they end as the body does; where the body has no variables,
-- whatever else it does, each literal that it emits is set in slot 0 and emitted from there by the next line; and where
-- each line is fixed they are those lines.
pub record HasForm (app : App) (id : BodyId) (entry : ℕ) (lines : List Line) : Type 0 where
  pub ends : (front : List Line) × (lines ≡ front ++ end_line app id entry ∷ [])
  pub emits : HasNoVariables (member_at app id) → HasEmits (emitted_of (member_at app id)) lines
  pub fixed : (front : List Line) → fixed_body app (member_at app id) ≡ Some front
      → lines ≡ front ++ end_line app id entry ∷ []

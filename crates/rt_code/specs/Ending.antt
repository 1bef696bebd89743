-- How a job ends, and how a handler calls a body that runs in a frame of its own (the RTIC 1 book, software tasks: a
-- dispatcher runs their bodies one after another). Calls are this project's own.
use Rattle.std.specs.Prelude.{◌≡◌, ℕ, suc, ◌<◌, true, List, [], length, slice_get, slice_index, Option, Some, None}
use Rattle.rt_actions.specs.Location.{Location}
use Rattle.rt_actions.specs.Content.{Values}
use Rattle.rt_actions.specs.Action.{Action, Ends}
use Rattle.rt_actions.specs.Doing.{Doing, does}
use Rattle.rt_actions.specs.Storage.{Storage, Runner, Starting, AtPriority}
use Rattle.rt_ids.specs.declared.ids.BodyId.{BodyId}
use Rattle.rt_ids.specs.declared.ids.BodyId.TheVariants as body
use Rattle.rt_code.specs.Acting.{Acts}
use Rattle.rt_code.specs.Owning.{Configuration}
use Rattle.rt_code.specs.Stack as stack
use Rattle.rt_code.specs.declared.image.BodyRow.{BodyRow}
use Rattle.rt_code.specs.declared.instr.Instr.{Instr}
use Rattle.rt_code.specs.declared.instr.Instr.TheVariants as instr
use Rattle.rt_code.specs.declared.instr.Note.{Note}

-- of code for a runner, beside the rows of the bodies that it may call, where the thread goes on at an address once
-- `init` or `idle` ends
module _ (st : Storage) (code : List (Instr × Option Note)) (bodies : List BodyRow) (thread : ℕ) (who : Runner) where
  -- A job's last action, or that of a body of the thread: it has no section open and nothing in its hands, and gives
  -- back what its runner keeps.
  pub record Finishes (action : Action) (s : Configuration) : Type 0 where
    pub values : Values
    pub follows : ℕ → Values → Doing Values
    pub is : s.rest ≡ does action values follows
    pub closed : s.held ≡ []
    pub empty : s.places ≡ []
    pub own_frame : s.caller ≡ None
    pub represented : (h : Location) → st.is_kept who h ≡ true
        → st.Represents h (slice_index s.cells) (s.queues h) (values h)

  -- a body that a handler calls runs in a frame of its own, with no section open, whatever that holds behind the
  -- arguments; the handler's frame keeps the address after the call
  pub record Calls (row from : ℕ) (s : Configuration) (later : Configuration → Type 0) : Type 0 where
    pub called : BodyRow
    pub is_there : slice_get bodies row ≡ Some called
    pub closed : s.held ≡ []
    pub may_call : (s.caller ≡ None) × (0 < length s.slots)
    pub fits : stack.arguments_fit s.slots called from ≡ true
    pub on : let frame : List ℕ = stack.caller_frame s.slots (suc s.address) in (slots : List ℕ)
        → stack.IsAlikeUpTo called.args (stack.body_frame frame called from) slots
        → later (record s { address = called.entry; slots = slots; caller = Some frame })

  -- the end of a called body leads back to the handler's frame, to the address after the call, whatever the slot that
  -- kept it holds then
  pub record ComesBack (t : ℕ) (s : Configuration) (later : Configuration → Type 0) : Type 0 where
    pub frame : List ℕ
    pub caller : s.caller ≡ Some frame
    pub closed : s.held ≡ []
    pub acts : (slots : List ℕ) → stack.IsAlikeUpTo (stack.last_slot frame) frame slots
        → Acts st bodies who (Ends (body.Task t)) 0
        (record s { address = stack.return_address frame; slots = slots; caller = None }) later

  -- How a body ends: `init` by serving interrupts, and the thread goes on at its address; `idle` by a jump to that
  -- address; a called body by going back to its handler.
  abbrev pub EndsBody : BodyId → Instr → Configuration → (Configuration → Type 0) → Type 0
  EndsBody body.Init i s later =
      (i ≡ instr.Serve) × (who ≡ Starting) × (suc s.address ≡ thread) × Finishes (Ends body.Init) s
  EndsBody body.Idle i s later = (i ≡ instr.Jump thread) × (who ≡ AtPriority 0) × Finishes (Ends body.Idle) s
  EndsBody (body.Task t) i s later = (i ≡ instr.Back) × ComesBack t s later

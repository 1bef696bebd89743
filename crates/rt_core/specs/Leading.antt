-- Where a job is on the core, the cores that its instructions lead to, and what its notes show. They are words of
-- this project's own for what the definitions of the core and of standing code say together.
use Rattle.std.specs.Prelude.{◌≡◌, ℕ, false, List, length, None}
use Rattle.rt_actions.specs.Storage.{Storage, Runner}
use Rattle.rt_code.specs.Acting.{Noted}
use Rattle.rt_code.specs.Owning.{Configuration}
use Rattle.rt_code.specs.Processor.{Processor}
use Rattle.rt_code.specs.Stack as stack
use Rattle.rt_code.specs.Standing.{KeepsSaved}
use Rattle.rt_code.specs.declared.image.BodyRow.{BodyRow}
use Rattle.rt_code.specs.declared.instr.Note.{Note}
use Rattle.rt_code.specs.declared.instr.Note.TheVariants as note
use Rattle.rt_trace.specs.declared.item.What.{What}
use Rattle.rt_trace.specs.declared.item.What.TheVariants as what
use Rattle.rt_core.specs.Core.{Core, Context}

-- the core is where the job is
pub record IsAt (c : Core) (s : Configuration) : Type 0 where
  pub address : c.processor.address ≡ s.address
  pub slots : c.processor.slots ≡ s.slots
  pub cells : c.processor.cells ≡ s.cells
  pub caller : c.caller ≡ s.caller

-- After a plain instruction the masks are as they were, the frame and memory are as long, and the slots in which open
-- sections saved masks are as they were.
pub record GoesPlainly (s : Configuration) (before after : Processor) : Type 0 where
  pub basepri : after.basepri ≡ before.basepri
  pub primask : after.primask ≡ before.primask
  pub frame : length after.slots ≡ length before.slots
  pub memory : length after.cells ≡ length before.cells
  pub saved : KeepsSaved s.held before.slots after.slots

-- the core with another state of its processor
abbrev pub with_processor : Core → Processor → Core
with_processor c p = record c { processor = p }

-- the core at another address
abbrev pub at_address : Core → ℕ → Core
at_address c address = with_processor c (record c.processor { address = address })

-- the core at another address, with interrupts served from now on
abbrev pub core_serving : Core → ℕ → Core
core_serving c address = with_processor c (record c.processor { address = address; primask = false })

-- the core after a called body, in its handler's frame
abbrev pub in_frame : Core → List ℕ → Core
in_frame c frame = record c {
  processor = record c.processor { address = stack.return_address frame; slots = frame };
  caller = None;
}

-- the core after a handler's return, where what it interrupted runs on
abbrev pub in_context : Core → Context → List Context → Core
in_context c x others = record c {
  processor = record c.processor { address = x.address; slots = x.slots };
  caller = x.caller;
  below = others;
}

module _ (st : Storage) (bodies : List BodyRow) (who : Runner) (later : Configuration → Type 0) where
  -- the item of a note, with the arguments, the handle or the instant as the job knows them
  abbrev pub item_of : (told : Note) (t : Configuration) → Noted st bodies who told t later → What
  item_of (note.Placed n) t noted = what.Placed n
  item_of (note.Full n) t noted = what.Full n
  item_of (note.Ready n) t noted = what.Ready n
  item_of (note.Start n from) t noted = what.Start n noted.message.args
  item_of (note.Free n) t noted = what.Free n
  item_of (note.Arm n slot) t noted = what.Arm n noted.instant
  item_of (note.Fire n) t noted = what.Fire n
  item_of (note.Cancel n slot) t noted = what.Cancel n noted.handle
  item_of (note.Move n slot from) t noted = what.Move n noted.handle noted.instant
  item_of told t noted = absurd noted

-- Code that stands, that is, code that is correct: from where a job is, instruction after instruction does what the job
-- has left to do, action by action and in time, whatever others do to what is not its own. It is said by what each
-- instruction does (`effect`), once for all code, and not by how code is generated: a job is thought of in its own
-- frame, its own sections and its own part of memory, as a task of RTIC 1 is. It is rely-guarantee reasoning (Jones,
-- Tentative Steps Toward a Development Method for Interfering Programs, 1983) with ownership (O'Hearn, Resources,
-- Concurrency and Local Reasoning, 2007).
use Rattle.std.specs.Prelude.{◌≡◌, ℕ, zero, suc, ◌-◌, ◌^◌, ◌<◌, Bool, true, false, ◌||◌, List, [], ◌∷◌, length, map}
use Rattle.std.specs.Prelude.{slice_get, slice_index, Option, Some, None}
use Rattle.std.specs.List.{AllByRecursion}
use Rattle.rt_actions.specs.Location.{Location}
use Rattle.rt_actions.specs.Content.{Values}
use Rattle.rt_actions.specs.Entry.{Entry}
use Rattle.rt_actions.specs.Action.{Emits, Posts, Clocks, Returns}
use Rattle.rt_actions.specs.Doing.{Doing}
use Rattle.rt_actions.specs.Storage.{Storage, Runner}
use Rattle.rt_code.specs.Access.{access_of}
use Rattle.rt_code.specs.Acting.{Acts, SetsTheAlarm, Noted}
use Rattle.rt_code.specs.Effect as instruction
pub use Rattle.rt_code.specs.Ending.{Finishes, Calls, ComesBack, EndsBody}
use Rattle.rt_code.specs.Masking.{EntersSection, LeavesSection}
use Rattle.rt_code.specs.Owning.{OpenSection, Configuration, saved_slots, MayAccess}
use Rattle.rt_code.specs.Processor.{Processor, Effect, Traps, Leads}
use Rattle.rt_code.specs.declared.image.BodyRow.{BodyRow}
use Rattle.rt_code.specs.declared.instr.Instr.{Instr}
use Rattle.rt_code.specs.declared.instr.Note.{Note}
use Rattle.rt_code.specs.declared.instr.Note.TheVariants as note
use Rattle.rt_code.specs.declared.processor.Request.{Request}
use Rattle.rt_code.specs.declared.processor.Request.TheVariants as request

-- the processor at a job's configuration, with these masks
abbrev pub processor_of : Configuration → ℕ → Bool → Processor
processor_of s basepri primask =
    record { address = s.address; basepri = basepri; primask = primask; slots = s.slots; cells = s.cells }

-- where a job is after an instruction of its own
abbrev pub configuration_after : Configuration → Processor → Configuration
configuration_after s p = record s { address = p.address; slots = p.slots; cells = p.cells }

-- what its open sections saved is not touched
abbrev pub KeepsSaved : List OpenSection → List ℕ → List ℕ → Type 0
KeepsSaved held slots after = AllByRecursion (λ d. slice_index after d ≡ slice_index slots d) (saved_slots held)

-- a step is left to the job and to each of its open sections
abbrev pub HaveLeft : List ℕ → Type 0
HaveLeft lefts = AllByRecursion (λ n. 0 < n) lefts

-- where the job is, with a step less left to it and to each of its open sections
abbrev pub spend_step : Configuration → Configuration
spend_step s = record s { lefts = map (λ n. n - 1) s.lefts }

-- code for a runner, beside the rows of the bodies that it may call, where the thread goes on at an address once `init`
-- or `idle` ends
module _ (st : Storage) (code : List (Instr × Option Note)) (bodies : List BodyRow) (thread : ℕ) (who : Runner) where
  -- what an instruction asks of the core; one that asks nothing is silent, or does what its note says
  abbrev pub Asks : Request → Option Note → Configuration → (Configuration → Type 0) → Type 0
  Asks request.Nothing None s later = later s
  Asks request.Nothing (Some told) s later = Noted st bodies who told s later
  Asks (request.Emit value) None s later = Acts st bodies who (Emits value) 0 s later
  Asks (request.Post irq) None s later = Acts st bodies who (Posts irq) 0 s later
  Asks (request.Clock time) None s later = Acts st bodies who Clocks time s later
  Asks (request.Alarm instant irq) None s later =
      (st.timer ≡ Some irq) × SetsTheAlarm st bodies who (Some instant) s later
  Asks request.NoAlarm None s later = SetsTheAlarm st bodies who None s later
  Asks (request.Call row from) None s later = Calls st code bodies thread who row from s later
  Asks request.Return None s later = Finishes st code bodies thread who Returns s
  Asks request.Back None s later = ⊥
  Asks asked (Some told) s later = ⊥

  -- an instruction with this effect does not trap, leaves the masks and what sections saved, and asks what the job has
  -- to do next
  abbrev pub Goes : Option Note → ℕ → Bool → Configuration → (Configuration → Type 0) → Effect → Type 0
  Goes told basepri primask s later (Traps trap) = ⊥
  Goes told basepri primask s later (Leads p asked) =
      (p.basepri ≡ basepri) × (p.primask ≡ primask) × KeepsSaved s.held s.slots p.slots
      × Asks asked told (configuration_after s p) later

  -- an instruction that neither opens nor closes a section, nor ends a body: it touches what the job may touch, and
  -- with any masks and at any time below 2^31 it goes on as it should
  pub record Does (i : Instr) (told : Option Note) (s : Configuration) (later : Configuration → Type 0) : Type 0 where
    pub touches : MayAccess st who s (access_of i (processor_of s 0 false))
    pub goes : (time basepri : ℕ) (primask : Bool) → time < 2 ^ 31
        → Goes told basepri primask s later (instruction.effect i time (processor_of s basepri primask))

  -- an instruction with its note does what the job has to do: those of sections and of ends in ways of their own, and
  -- any other
  abbrev pub Fits : Instr → Option Note → Configuration → (Configuration → Type 0) → Type 0
  Fits i (Some (note.Enter x)) s later = EntersSection st who x i s later
  Fits i (Some (note.Leave x)) s later = LeavesSection st who x i s later
  Fits i (Some (note.End b)) s later = EndsBody st code bodies thread who b i s later
  Fits i told s later = Does i told s later

  -- there is a line, and its instruction fits with its note
  abbrev pub LineFits : Option (Instr × Option Note) → Configuration → (Configuration → Type 0) → Type 0
  LineFits None s later = ⊥
  LineFits (Some line) s later = Fits line.0 line.1 s later

  -- The code is correct where the job is: within so many steps of its own the job comes to its end, each step is that
  -- of the line at its address, and no count of steps that are left runs out before.
  unfoldable pub Stands : ℕ → Configuration → Type 0
  Stands zero s = ⊥
  Stands (suc n) s = HaveLeft s.lefts × LineFits (slice_get code s.address) (spend_step s) (Stands n)

  -- Code is correct at an entry, as a whole body or handler: from every frame of so many words, whatever it holds, and
  -- every memory that represents what its runner keeps or may read at any time, it does what is to be done, within its
  -- cost.
  abbrev pub StandsFrom : ℕ → ℕ → ℕ → ℕ → (Values → Doing Values) → Type 0
  StandsFrom memory words entry cost doing =
      (slots cells : List ℕ) (queues : Location → List Entry) (vs : Values) → length slots ≡ words → length cells
      ≡ memory
      → ((h : Location) → (st.is_kept who h || st.is_constant who h) ≡ true
      → st.Represents h (slice_index cells) (queues h) (vs h))
      → Stands cost (record {
        held = [];
        lefts = cost ∷ [];
        places = [];
        slots = slots;
        caller = None;
        address = entry;
        cells = cells;
        queues = queues;
        rest = doing vs;
      })

-- What a job owns while it runs: the resources and queues whose sections it has open, what its runner keeps, and the
-- places of messages in its hands (Baker, Stack-Based Scheduling of Realtime Processes, 1991: a job's open sections;
-- the RTIC 1 book, local resources). A job touches cells of these alone; the rest of memory is others'.
use Rattle.std.specs.Prelude.{◌≡◌, ℕ, ◌+◌, ◌<◌, ◌||◌, Bool, true, List, [], ◌∷◌, length, slice_index, flat_map, sum_by}
use Rattle.std.specs.Prelude.{Option, Some, None}
use Rattle.std.specs.List.{list_any}
use Rattle.rt_actions.specs.Location.{Location, Guarded, Own, is_same_section}
use Rattle.rt_actions.specs.Content.{Values}
use Rattle.rt_actions.specs.Entry.{Entry, count}
use Rattle.rt_actions.specs.Doing.{Doing}
use Rattle.rt_actions.specs.Storage.{Storage, Runner, Home, At, In, Nowhere}
use Rattle.rt_ids.specs.declared.ids.Section.{Section}
use Rattle.rt_code.specs.Access.{Access, Loads, Stores}

-- how a section holds others off: by nothing, since what runs does already; or by BASEPRI or PRIMASK, whose value
-- before is in a slot
pub data SectionKind : Type 0 where
  Marked : SectionKind
  Raised : (slot : ℕ) → SectionKind
  Masked : (slot : ℕ) → SectionKind

-- an open section, and how it holds others off
pub record OpenSection : Type 0 where
  pub section : Section
  pub kind : SectionKind

-- where a job is: its own part of the core and of memory, and what it has left to do
pub record Configuration : Type 0 where
  -- its open sections, innermost first
  pub held : List OpenSection
  -- At most so many more steps are needed: to the leaving of each open section, innermost first, and at last to the
  -- job's end.
  pub lefts : List ℕ
  -- the places of messages in its hands, the last taken first
  pub places : List Entry
  pub slots : List ℕ
  -- where a called body runs, the frame of the handler that called it
  pub caller : Option (List ℕ)
  pub address : ℕ
  pub cells : List ℕ
  -- the places of the messages in each queue
  pub queues : Location → List Entry
  pub rest : Doing Values

-- whether the job has a section open
abbrev pub is_open : List OpenSection → Section → Bool
is_open held x = list_any (λ h. is_same_section h.section x) held

-- the slot that holds what a mask was before a section of this kind, where it changed one
abbrev pub saved_slot : SectionKind → List ℕ
saved_slot Marked = []
saved_slot (Raised slot) = slot ∷ []
saved_slot (Masked slot) = slot ∷ []

-- the slots that hold what masks were before the open sections
abbrev pub saved_slots : List OpenSection → List ℕ
saved_slots held = flat_map (λ h. saved_slot h.kind) held

-- how often an entry is in the job's hands or in a queue whose section it has open
abbrev pub mine : Configuration → Entry → ℕ
mine s e = count e s.places + sum_by (λ h. count e (s.queues (Guarded h.section))) s.held

module _ (st : Storage) (who : Runner) where
  -- whether the job may change what a location holds, with these sections open
  abbrev pub owns : List OpenSection → Location → Bool
  owns held (Guarded x) = is_open held x || st.is_kept who (Guarded x)
  owns held (Own n) = st.is_kept who (Own n)

  -- whether the job may read what a location holds, with these sections open
  abbrev pub reads : List OpenSection → Location → Bool
  reads held location = owns held location || st.is_constant who location

  -- the job may read a cell of this home: of a location that it may read, or of a place in its hands or in an open
  -- queue
  abbrev pub MayLoad : Configuration → Home → Type 0
  MayLoad s (At location) = reads s.held location ≡ true
  MayLoad s (In e) = 0 < mine s e
  MayLoad s Nowhere = ⊥

  -- the job may write a cell of this home: of a location that it may change, or of a place in its hands
  abbrev pub MayStore : Configuration → Home → Type 0
  MayStore s (At location) = owns s.held location ≡ true
  MayStore s (In e) = 0 < count e s.places
  MayStore s Nowhere = ⊥

  -- the job may do this access, where there is one
  abbrev pub MayAccess : Configuration → Option Access → Type 0
  MayAccess s None = Unit {0}
  MayAccess s (Some (Loads cell)) = MayLoad s (st.home cell)
  MayAccess s (Some (Stores cell)) = MayStore s (st.home cell)

  -- these values are the same in all that the job may read
  abbrev pub Agree : List OpenSection → Values → Values → Type 0
  Agree held vs ws = (location : Location) → reads held location ≡ true → vs location ≡ ws location

  -- Memory and queues as others may have left them: as before in what is the job's own.
  pub record LeavesMine (s : Configuration) (cells : List ℕ) (queues : Location → List Entry) : Type 0 where
    pub long : length cells ≡ length s.cells
    pub touched : (cell : ℕ) → MayLoad s (st.home cell) → slice_index cells cell ≡ slice_index s.cells cell
    pub queued : (location : Location) → owns s.held location ≡ true → queues location ≡ s.queues location

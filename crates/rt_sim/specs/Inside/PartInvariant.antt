-- What holds of each job at a moment of a run: its code stands for what it has left to do, the values that it made on
-- its way are there yet, and its open sections are of the kinds that are asked for. It is said by "stands" alone, and
-- follows no instruction.
use Rattle.std.specs.Prelude.{◌≡◌, ℕ, Bool, true, false, List, [], ◌∷◌, length, slice_get, Some, None}
use Rattle.std.specs.List.{AllByRecursion}
use Rattle.rt_actions.specs.Location.{Location, Guarded}
use Rattle.rt_actions.specs.Content.{Values}
use Rattle.rt_actions.specs.Entry.{Entry}
use Rattle.rt_actions.specs.Doing.{Doing, over, does}
use Rattle.rt_actions.specs.Storage.{Runner}
use Rattle.rt_app.specs.Tree.{App}
use Rattle.rt_app.specs.Holding.{storage, IsHeld}
use Rattle.rt_code.specs.Image.{Image}
use Rattle.rt_code.specs.Masking.{IsKindFor, IsWithin, NobodyKeeps}
use Rattle.rt_code.specs.Owning.{OpenSection, owns, reads, is_open, Agree}
use Rattle.rt_code.specs.Standing.{Stands}
use Rattle.rt_code.specs.declared.instr.Instr.TheVariants as instr
use Rattle.rt_laws.specs.State.{Role, Waiting}
use Rattle.rt_sim.specs.Inside.Coupling.{Part, runner_of, sections_of, configuration_of}
use Rattle.rt_sim.specs.Inside.Ownership.{RespectsOwnership}
use Rattle.rt_sim.specs.Inside.Calling.{handles, own_slots, CallsWithin}

-- who runs its code
abbrev pub who : Part → Runner
who p = runner_of p.role p.priority

-- no section is open twice
abbrev pub AreOnce : List OpenSection → Type 0
AreOnce [] = Unit {0}
AreOnce (h ∷ outer) = (is_open outer h.section ≡ false) × AreOnce outer

module _ (app : App) (img : Image) (thread : ℕ) where
  -- whether a job owns what a location holds, with its open sections
  abbrev pub Owns : Part → Location → Bool
  Owns p h = owns (storage app) (who p) p.held h

  -- whether a job may read what a location holds, with its open sections
  abbrev pub PartReads : Part → Location → Bool
  PartReads p h = reads (storage app) (who p) p.held h

  -- what the first owns the other does not read
  abbrev pub OwnedIsUnread : Part → Part → Type 0
  OwnedIsUnread p q = (h : Location) → Owns p h ≡ true → PartReads q h ≡ true → ⊥

  -- what either of two jobs owns the other does not read
  abbrev pub AreApart : Part → Part → Type 0
  AreApart p q = OwnedIsUnread p q × OwnedIsUnread q p

  -- an open section is well: its ceiling is at least the job's priority, it guards something of the application, and
  -- nobody reaches that without the section
  pub record IsOpenWell (runner : Runner) (h : OpenSection) : Type 0 where
    pub within : IsWithin (storage app) runner runner h.section
    pub is_held : IsHeld app (Guarded h.section)
    pub shared : NobodyKeeps (storage app) runner runner h.section

  -- each section was opened by the kind that the sections further out ask for
  abbrev pub AreOfKind : Runner → List OpenSection → Type 0
  AreOfKind runner [] = Unit {0}
  AreOfKind runner (h ∷ outer) =
      IsKindFor (storage app) runner runner outer h.section h.kind × AreOfKind runner outer

  -- where `idle` is absent, the thread waits for interrupts
  pub record WaitsAt (p : Part) : Type 0 where
    pub code : slice_get img.code p.address ≡ Some (instr.Wait, None)
    pub over : p.rest ≡ over
    pub closed : p.held ≡ []
    pub none : p.lefts ≡ []

  -- the code stands for what the job has left to do; without `idle` the thread waits
  abbrev pub StandsBy : Role → List ℕ → (Location → List Entry) → Part → Type 0
  StandsBy Waiting cells queues p = WaitsAt p
  StandsBy role cells queues p =
      Stands (storage app) img.code p.rows thread (who p) p.steps (configuration_of cells queues p)

  -- the values that a job made on its way are there yet, in what it reads
  abbrev pub AgreesWith : Runner → List OpenSection → Values → Doing Values → Type 0
  AgreesWith runner held values over = Unit {0}
  AgreesWith runner held values (does action made next) = Agree (storage app) runner held values made

  -- all that holds of one started job of a coupling
  pub record PartInvariant (cells : List ℕ) (queues : Location → List Entry) (values : Values) (p : Part) : Type 0 where
    pub stands : StandsBy p.role cells queues p
    pub agrees : AgreesWith (who p) p.held values p.rest
    pub counted : length p.lefts ≡ length p.held
    pub respects : RespectsOwnership app (who p) (handles p.role) (sections_of p.held) p.rest
    pub opened : AllByRecursion (IsOpenWell (who p)) p.held
    pub kinds : AreOfKind (who p) p.held
    pub once : AreOnce p.held
    pub calls : CallsWithin app img p.role p.priority p.own p.rows
    pub own : length (own_slots p.caller p.slots) ≡ p.own

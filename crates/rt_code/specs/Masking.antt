-- How code goes into a section and comes out of it. A section holds off all priorities up to its ceiling: by nothing
-- where what runs does already; by BASEPRI; or by PRIMASK where the priority value of the ceiling is 0, which in
-- BASEPRI would mask nothing (the RTIC 1 book, critical sections; ARMv7-M Architecture Reference Manual, section
-- B1.4.3). What the mask was is kept in a slot, and put back.
use Rattle.std.specs.Prelude.{◌≡◌, ℕ, suc, ◌-◌, ◌<◌, ◌≤◌, max, false, List, ◌∷◌, length, map, drop, slice_index}
use Rattle.std.specs.Prelude.{slice_set, Contains}
use Rattle.std.specs.List.{AllByRecursion}
use Rattle.rt_ids.specs.Lists.{greatest}
use Rattle.rt_actions.specs.Location.{Location, Guarded}
use Rattle.rt_actions.specs.Content.{Values, MayArm}
use Rattle.rt_actions.specs.Entry.{Entry}
use Rattle.rt_actions.specs.Action.{Enters, Leaves}
use Rattle.rt_actions.specs.Doing.{Doing, does}
use Rattle.rt_actions.specs.Storage.{Storage, Runner, Starting, AtPriority}
use Rattle.rt_ids.specs.declared.ids.Section.{Section}
use Rattle.rt_code.specs.Owning.{SectionKind, Marked, Raised, Masked, OpenSection, Configuration, is_open, saved_slot}
use Rattle.rt_code.specs.Owning.{saved_slots, mine}
use Rattle.rt_code.specs.Owning.{Agree, LeavesMine}
use Rattle.rt_code.specs.declared.instr.Instr.{Instr}
use Rattle.rt_code.specs.declared.instr.Instr.TheVariants as instr

-- the instruction that opens a section of this kind; BASEPRI becomes the priority value of its ceiling
abbrev pub opening_instr : ℕ → SectionKind → Instr
opening_instr value Marked = instr.Mark
opening_instr value (Raised slot) = instr.Raise slot value
opening_instr value (Masked slot) = instr.Mask slot

-- the instruction that closes a section of this kind, and puts the mask back
abbrev pub closing_instr : SectionKind → Instr
closing_instr Marked = instr.Mark
closing_instr (Raised slot) = instr.Restore slot
closing_instr (Masked slot) = instr.Unmask slot

-- the slots with what a mask was, where the kind keeps one
abbrev pub slots_with_mask : SectionKind → ℕ → List ℕ → List ℕ
slots_with_mask Marked value slots = slots
slots_with_mask (Raised slot) value slots = slice_set slots slot value
slots_with_mask (Masked slot) value slots = slice_set slots slot value

module _ (st : Storage) (who : Runner) where
  -- the mask that a ceiling asks for, at a preemption threshold that what runs holds off already
  abbrev pub IsMask : ℕ → ℕ → SectionKind → Type 0
  IsMask ceiling threshold Marked = ceiling ≤ threshold
  IsMask ceiling threshold (Raised slot) = (threshold < ceiling) × (0 < st.value ceiling)
  IsMask ceiling threshold (Masked slot) = (threshold < ceiling) × (st.value ceiling ≡ 0)

  -- the kind that a section asks for: in `init`, which holds off all, a mark; elsewhere by the preemption threshold,
  -- the greatest of the runner's priority and of the ceilings of its open sections
  abbrev pub IsKindFor : Runner → List OpenSection → Section → SectionKind → Type 0
  IsKindFor Starting held x kind = kind ≡ Marked
  IsKindFor (AtPriority p) held x kind =
      IsMask (st.ceiling x) (max p (greatest (map (λ h. st.ceiling h.section) held))) kind

  -- the ceiling is at least the priority of what runs; for `init`, which nobody interrupts, nothing is asked
  abbrev pub IsWithin : Runner → Section → Type 0
  IsWithin Starting x = Unit {0}
  IsWithin (AtPriority p) x = p ≤ st.ceiling x

  -- In `init`: it does not keep what the section guards. At a priority: no runner at a priority keeps it, or may read
  -- it without the section.
  abbrev pub NobodyKeeps : Runner → Section → Type 0
  NobodyKeeps Starting x = st.is_kept Starting (Guarded x) ≡ false
  NobodyKeeps (AtPriority p) x =
      (q : ℕ) → (st.is_kept (AtPriority q) (Guarded x) ≡ false) × (st.is_constant (AtPriority q) (Guarded x) ≡ false)

  -- where the job is after the opening of a section, with memory and queues as they then are
  abbrev pub with_section : Section → SectionKind → ℕ → ℕ → Doing Values → List ℕ → (Location → List Entry)
      → Configuration
      → Configuration
  with_section x kind saved cost rest cells queues s = record s {
    held = record { section = x; kind = kind } ∷ s.held;
    lefts = (cost - 1) ∷ s.lefts;
    slots = slots_with_mask kind saved s.slots;
    address = suc s.address;
    cells = cells;
    queues = queues;
    rest = rest;
  }

  -- What a section guards is taken over as the others left it, with no place of a message twice among the job's own.
  pub record TakesOver (x : Section) (s : Configuration) (values vs : Values) (cells : List ℕ)
      (queues : Location → List Entry) : Type 0 where
    pub agree : Agree st who s.held vs values
    pub same : LeavesMine st who s cells queues
    pub represented : st.Represents (Guarded x) (slice_index cells) (queues (Guarded x)) (vs (Guarded x))
    pub once : (e : Entry) → mine (with_section x Marked 0 0 s.rest cells queues s) e ≤ 1
    -- where it is the timer queue, one more message may be armed: armings are numbered
    pub few : MayArm (vs (Guarded x))

  -- The job's next action enters a section, and the instruction opens it. Then the job has what the section guards, as
  -- others left it.
  pub record EntersSection (x : Section) (i : Instr) (s : Configuration) (later : Configuration → Type 0) : Type 0 where
    pub cost : ℕ
    pub values : Values
    pub follows : ℕ → Values → Doing Values
    pub is : s.rest ≡ does (Enters x cost) values follows
    pub kind : SectionKind
    pub mask : IsKindFor who s.held x kind
    pub opens : i ≡ opening_instr (st.value (st.ceiling x)) kind
    -- the slot that keeps the mask is in the frame, and keeps no other
    pub slot : AllByRecursion (λ d. (d < length s.slots) × (¬ Contains (saved_slots s.held) d)) (saved_slot kind)
    pub within : IsWithin who x
    pub once : is_open s.held x ≡ false
    pub shared : NobodyKeeps who x
    pub on : (saved : ℕ) (vs : Values) (cells : List ℕ) (queues : Location → List Entry)
        → TakesOver x s values vs cells queues
        → later (with_section x kind saved cost (follows 0 vs) cells queues s)

  -- The job's next action leaves the innermost section, and the instruction closes it. What the section guards is given
  -- back as it then is: its cells represent its value.
  pub record LeavesSection (x : Section) (i : Instr) (s : Configuration) (later : Configuration → Type 0) : Type 0 where
    pub values : Values
    pub follows : ℕ → Values → Doing Values
    pub is : s.rest ≡ does (Leaves x) values follows
    pub kind : SectionKind
    pub outer : List OpenSection
    pub innermost : s.held ≡ record { section = x; kind = kind } ∷ outer
    pub closes : i ≡ closing_instr kind
    pub represented : st.Represents (Guarded x) (slice_index s.cells) (s.queues (Guarded x)) (values (Guarded x))
    pub on : (vs : Values) → Agree st who outer vs values
        → later (record s { held = outer; lefts = drop 1 s.lefts; address = suc s.address; rest = follows 0 vs })

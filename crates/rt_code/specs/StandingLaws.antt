-- What holds of all code that stands: further code after it, more steps than it needs, and whatever others do to what
-- is not the job's own change nothing of it; and of each of its steps what the definition says.
use Rattle.std.specs.Prelude.{◌≡◌, ℕ, suc, ◌<◌, ◌≤◌, ◌⊎◌, false, List, [], ◌∷◌, ◌++◌, Option}
use Rattle.rt_actions.specs.Location.{Location}
use Rattle.rt_actions.specs.Content.{Content}
use Rattle.rt_actions.specs.Entry.{Entry, count}
use Rattle.rt_actions.specs.Storage.{Storage, Runner, At, In}
use Rattle.rt_code.specs.Owning.{Configuration, LeavesMine}
use Rattle.rt_code.specs.Standing.{Stands}
use Rattle.rt_code.specs.StandingSteps.{StepLaw, MaskLaw, FrameLaw, TakingOver, GivingBack, EndLaw}
use Rattle.rt_code.specs.declared.image.BodyRow.{BodyRow}
use Rattle.rt_code.specs.declared.instr.Instr.{Instr}
use Rattle.rt_code.specs.declared.instr.Note.{Note}

-- two lists of one length, the second of which is nowhere less
abbrev pub AreAtLeast : List ℕ → List ℕ → Type 0
AreAtLeast [] [] = Unit {0}
AreAtLeast (n ∷ ns) (m ∷ ms) = (n ≤ m) × AreAtLeast ns ms
AreAtLeast ns ms = ⊥

-- what a location's cells represent goes by this cell: its own, and, where no runner keeps the location, one of a place
-- in its queue
abbrev pub IsRepresentedBy : Storage → Location → List Entry → ℕ → Type 0
IsRepresentedBy st h entries c =
    (st.home c ≡ At h)
    ⊎ (((who : Runner) → st.is_kept who h ≡ false) × ((e : Entry) × (st.home c ≡ In e) × (0 < count e entries)))

-- what cells represent for a location stays the same where the cells that it goes by do
abbrev pub RepresentsByItsOwn : Storage → Type 0
RepresentsByItsOwn st = (h : Location) (before after : ℕ → ℕ) (entries : List Entry) (content : Content)
    → ((c : ℕ) → IsRepresentedBy st h entries c → after c ≡ before c)
    → st.Represents h before entries content → st.Represents h after entries content

module _ (st : Storage) (bodies : List BodyRow) (thread : ℕ) (who : Runner) where
  -- code that stands does so with further code after it
  abbrev pub StandsBeforeMore : Type 0
  StandsBeforeMore = (code more : List (Instr × Option Note)) (n : ℕ) (s : Configuration)
      → Stands st code bodies thread who n s → Stands st (code ++ more) bodies thread who n s

  -- code that stands does so with more steps left to the job and to its open sections
  abbrev pub StandsWithMore : Type 0
  StandsWithMore =
      (code : List (Instr × Option Note)) (n m : ℕ) (s : Configuration) (lefts : List ℕ) → n ≤ m
      → AreAtLeast s.lefts lefts
      → Stands st code bodies thread who n s → Stands st code bodies thread who m (record s { lefts = lefts })

  -- code that stands does so whatever others do to what is not the job's own: it is stable under interference
  abbrev pub StandsWhateverOthersDo : Type 0
  StandsWhateverOthersDo =
      (code : List (Instr × Option Note)) (n : ℕ) (s : Configuration) (cells : List ℕ) (queues : Location → List Entry)
      → LeavesMine st who s cells queues → Stands st code bodies thread who n s
      → Stands st code bodies thread who n (record s { cells = cells; queues = queues })

-- a law holds of each configuration in which code stands with a step to take
abbrev pub OfEachStep
    : Storage → (List (Instr × Option Note) → List BodyRow → ℕ → Runner → ℕ → Configuration → Type 0) → Type 0
OfEachStep st law =
    (code : List (Instr × Option Note)) (bodies : List BodyRow) (thread : ℕ) (who : Runner) (n : ℕ) (s : Configuration)
    → Stands st code bodies thread who (suc n) s → law code bodies thread who n s

-- All laws of code that stands over a storage: it stands with more code after it, with more steps, and whatever others
-- do; and six laws of each step that it takes.
pub record StandingLaws (st : Storage) : Type 0 where
  pub appending : (bodies : List BodyRow) (thread : ℕ) (who : Runner) → StandsBeforeMore st bodies thread who
  pub more_steps : (bodies : List BodyRow) (thread : ℕ) (who : Runner) → StandsWithMore st bodies thread who
  pub others : (bodies : List BodyRow) (thread : ℕ) (who : Runner) → StandsWhateverOthersDo st bodies thread who
  pub step : OfEachStep st (StepLaw st)
  pub masks : OfEachStep st (MaskLaw st)
  pub frames : OfEachStep st (FrameLaw st)
  pub taking_over : OfEachStep st (TakingOver st)
  pub giving_back : OfEachStep st (GivingBack st)
  pub ends : OfEachStep st (EndLaw st)

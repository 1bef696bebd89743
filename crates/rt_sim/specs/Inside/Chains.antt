-- The masks as the chain of open sections says: each section that set one keeps in a slot what was before, so the masks
-- are those of the sections further out, down to what they were as the job began.
use Rattle.std.specs.Prelude.{◌≡◌, ℕ, ◌<◌, Bool, true, false, List, [], ◌∷◌, length, slice_index}
use Rattle.rt_ids.specs.Operation.{number_of}
use Rattle.rt_ids.specs.Priority.{hardware}
use Rattle.rt_app.specs.Tree.{App}
use Rattle.rt_app.specs.Ceiling.{ceiling}
use Rattle.rt_code.specs.Owning.{SectionKind, Marked, Raised, Masked, OpenSection}
use Rattle.rt_laws.specs.State.{Role, Init}
use Rattle.rt_sim.specs.Inside.Coupling.{Part}

-- the thread before the end of `init`
abbrev pub is_init : Role → Bool
is_init Init = true
is_init role = false

-- BASEPRI after the opening of a section of this kind: the priority value of its ceiling, or as it was
abbrev pub base_by : SectionKind → ℕ → ℕ → ℕ
base_by (Raised slot) value before = value
base_by kind value before = before

-- PRIMASK after the opening of a section of this kind: set, or as it was
abbrev pub mask_by : SectionKind → Bool → Bool
mask_by (Masked slot) before = true
mask_by kind before = before

module _ (app : App) where
  -- BASEPRI inside these sections, from what it was before them
  abbrev pub base_inside : List OpenSection → ℕ → ℕ
  base_inside [] before = before
  base_inside (h ∷ outer) before =
      base_by h.kind (hardware app.bits (ceiling app h.section)) (base_inside outer before)

  -- PRIMASK inside these sections, from what it was before them
  abbrev pub mask_inside : List OpenSection → Bool → Bool
  mask_inside [] before = before
  mask_inside (h ∷ outer) before = mask_by h.kind (mask_inside outer before)

  -- BASEPRI as jobs have left it, the last started first; before the thread it is 0
  abbrev pub base_under : List Part → ℕ
  base_under [] = 0
  base_under (q ∷ ps) = base_inside q.held (base_under ps)

  -- PRIMASK as jobs have left it, from the role of the job that they are under; before the thread it is set for `init`
  -- alone
  abbrev pub mask_under : Role → List Part → Bool
  mask_under role [] = is_init role
  mask_under role (q ∷ ps) = mask_inside q.held (mask_under q.role ps)

  -- BASEPRI as a running job on others has it
  abbrev pub base_of : Part → List Part → ℕ
  base_of p ps = base_inside p.held (base_under ps)

  -- PRIMASK as a running job on others has it
  abbrev pub mask_of : Part → List Part → Bool
  mask_of p ps = mask_inside p.held (mask_under p.role ps)

  -- a section of this kind keeps this BASEPRI or this PRIMASK in its slot
  abbrev pub SavesBy : List ℕ → SectionKind → ℕ → Bool → Type 0
  SavesBy slots Marked base mask = Unit {0}
  SavesBy slots (Raised slot) base mask = (slot < length slots) × (slice_index slots slot ≡ base)
  SavesBy slots (Masked slot) base mask = (slot < length slots) × (slice_index slots slot ≡ number_of mask)

  -- each open section keeps the mask that was before it in its slot
  abbrev pub Saves : List ℕ → List OpenSection → ℕ → Bool → Type 0
  Saves slots [] base mask = Unit {0}
  Saves slots (h ∷ outer) base mask =
      SavesBy slots h.kind (base_inside outer base) (mask_inside outer mask) × Saves slots outer base mask

-- What holds of a core at each moment where its image keeps the rules: it runs at a point of the image, over the points
-- at which handlers interrupted others, and masks, frames and memory are as these points say.
use Rattle.std.specs.Prelude.{◌≡◌, ℕ, ◌<◌, Bool, true, false, Some, None, List, [], ◌∷◌, length, slice_index}
use Rattle.rt_ids.specs.Operation.{number_of}
use Rattle.rt_code.specs.Image.{Image}
use Rattle.rt_code.specs.declared.image.Handler.{Handler}
use Rattle.rt_core.specs.Core.{Context, Core}
use Rattle.rt_points.specs.declared.point.SectionKind.{SectionKind}
use Rattle.rt_points.specs.declared.point.SectionKind.TheVariants.{Mark, Raise, Mask}
use Rattle.rt_points.specs.declared.point.Opened.{Opened}
use Rattle.rt_points.specs.declared.point.Owner.{Owner}
use Rattle.rt_points.specs.declared.point.Owner.TheVariants.{Starting, Handling}
use Rattle.rt_points.specs.Point.{Point}
use Rattle.rt_points.specs.Leading.{handler_at, IsPoint}
use Rattle.rt_points.specs.ExecutionPriority.{execution_priority, frame_of}

-- whether it is `init`
abbrev pub is_starting : Owner → Bool
is_starting Starting = true
is_starting owner = false

-- BASEPRI after the opening of a section of this kind, from what it was before
abbrev pub base_by : SectionKind → ℕ → ℕ
base_by (Raise slot value) before = value
base_by kind before = before

-- PRIMASK after the opening of a section of this kind, from what it was before
abbrev pub mask_by : SectionKind → Bool → Bool
mask_by (Mask slot) before = true
mask_by kind before = before

-- BASEPRI inside open sections, from what it was before them
abbrev pub base_inside : List Opened → ℕ → ℕ
base_inside [] before = before
base_inside (o ∷ outer) before = base_by o.kind (base_inside outer before)

-- PRIMASK inside open sections, from what it was before them
abbrev pub mask_inside : List Opened → Bool → Bool
mask_inside [] before = before
mask_inside (o ∷ outer) before = mask_by o.kind (mask_inside outer before)

-- BASEPRI as those that were interrupted left it; before the thread it is 0
abbrev pub base_under : List Point → ℕ
base_under [] = 0
base_under (q ∷ qs) = base_inside q.inside (base_under qs)

-- a section of this kind keeps in its slot what its mask was
abbrev pub KeepsMask : List ℕ → SectionKind → ℕ → Bool → Type 0
KeepsMask slots Mark base mask = Unit {0}
KeepsMask slots (Raise slot value) base mask = (slot < length slots) × (slice_index slots slot ≡ base)
KeepsMask slots (Mask slot) base mask = (slot < length slots) × (slice_index slots slot ≡ number_of mask)

-- each open section keeps in its slot what the sections further out left its mask at
abbrev pub KeepMasks : List ℕ → List Opened → ℕ → Bool → Type 0
KeepMasks slots [] base mask = Unit {0}
KeepMasks slots (o ∷ outer) base mask =
    KeepsMask slots o.kind (base_inside outer base) (mask_inside outer mask) × KeepMasks slots outer base mask

-- `init` or the thread after it, which interrupt nobody
abbrev pub IsLowest : Owner → Type 0
IsLowest (Handling index) = ⊥
IsLowest owner = Unit {0}

module _ (img : Image) where
  -- a point of the image, and the frame of the owner that is there
  pub record RunsAt (p : Point) (slots : List ℕ) (base : ℕ) : Type 0 where
    pub point : IsPoint img p
    pub frame : length slots ≡ frame_of img p.owner
    pub saves : KeepMasks slots p.inside base (is_starting p.owner)

  -- a handler at the first point on what it interrupted at the second: its priority is above the execution priority
  -- there
  pub record IsOn (p q : Point) (base : ℕ) (x : Context) : Type 0 where
    pub index : ℕ
    pub handler : Handler
    pub enabled : handler_at img index ≡ Some handler
    pub handles : p.owner ≡ Handling index
    pub value : x.value ≡ handler.value
    pub above : handler.value < execution_priority img q.owner q.inside
    pub address : x.address ≡ q.address
    pub caller : x.caller ≡ None
    pub interrupted : RunsAt q x.slots base

  -- each handler on what it interrupted, the thread last
  abbrev pub IsStacked : Point → List Point → List Context → Type 0
  IsStacked p [] [] = IsLowest p.owner
  IsStacked p (q ∷ qs) (x ∷ below) = IsOn p q (base_under qs) x × IsStacked q qs below
  IsStacked p qs below = ⊥

  -- All that ties a core to points, where it runs at the first point, over the others, the last interrupted first. No
  -- alarm is set, and no body is called.
  pub record RunsAtPoints (c : Core) (p : Point) (qs : List Point) : Type 0 where
    pub running : RunsAt p c.processor.slots (base_under qs)
    pub stack : IsStacked p qs c.below
    pub address : c.processor.address ≡ p.address
    pub basepri : c.processor.basepri ≡ base_inside p.inside (base_under qs)
    pub primask : c.processor.primask ≡ mask_inside p.inside (is_starting p.owner)
    pub memory : length c.processor.cells ≡ length img.cells
    pub caller : c.caller ≡ None
    pub alarm : c.alarm ≡ None
    pub stopped : c.stopped ≡ false

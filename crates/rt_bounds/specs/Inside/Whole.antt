-- What was found at all points of the owners before a row of the table of interrupts.
use Rattle.std.specs.Prelude.{◌≡◌, ◌==◌, ◌^◌, ℕ, suc, Bool, false, List, ◌∷◌, map, Option, None, Some}
use Rattle.std.specs.List.{AllByRecursion}
use Rattle.rt_ids.specs.Lists.{those_below}
use Rattle.rt_code.specs.Image.{Image}
use Rattle.rt_code.specs.declared.image.Handler.{Handler}
use Rattle.rt_code.specs.declared.image.IrqRow.{IrqRow}
use Rattle.rt_points.specs.declared.point.Owner.{Owner}
use Rattle.rt_points.specs.declared.point.Owner.TheVariants.{Starting, Thread, Handling}
use Rattle.rt_bounds.specs.Bounds.{IsHandlersBound, is_enabled, is_used}
use Rattle.rt_bounds.specs.Inside.Gathered.{IsGathered}
use Rattle.rt_bounds.specs.declared.bound.HandlerBound.{HandlerBound}
use Rattle.rt_bounds.specs.declared.bound.WaitBound.{WaitBound}
use Rattle.rt_bounds.specs.declared.gathered.Gathered.{Gathered}

-- whether a handler is there and has this priority value
abbrev pub has_value_of : ℕ → Option Handler → Bool
has_value_of value None = false
has_value_of value (Some h) = h.value == value

-- whether a row is enabled with this priority value
abbrev pub has_value : ℕ → IrqRow → Bool
has_value value row = has_value_of value row.handler

-- the priorities up to this one that are in use, with nothing that holds them off
pub record AreFirstTo (img : Image) (count : ℕ) (rows : List WaitBound) : Type 0 where
  pub used : map (λ row. row.priority) rows ≡ those_below (is_used img) count
  pub none : AllByRecursion (λ row. row.longest ≡ None) rows

-- the priorities that are in use
abbrev pub AreFirst : Image → List WaitBound → Type 0
AreFirst img rows = AreFirstTo img (suc (2 ^ img.bits)) rows

-- `init`, the thread, and the handlers of the enabled rows below this one
abbrev pub owners_below : Image → ℕ → List Owner
owners_below img index = Starting ∷ Thread ∷ map Handling (those_below (is_enabled img) index)

-- what was found at the points of these owners, with the bounds of these handlers
pub record IsGatheredBelow (img : Image) (index : ℕ) (g : Gathered) (handlers : List HandlerBound) : Type 0 where
  pub gathered : IsGathered img (owners_below img index) g
  pub each : AllByRecursion (IsHandlersBound img) handlers
  pub enabled : map (λ row. row.index) handlers ≡ those_below (is_enabled img) index

-- Arrivals one by one make pending what they name.
use Rattle.std.proofs.Common.{◌≡◌, ℕ, List, [], ◌∷◌, map, true, slice_set, refl}
use Rattle.rt_ids.specs.Event.{Arrive}
use Rattle.rt_code.specs.Image.{Image}
use Rattle.rt_ids.specs.Arrivals.{pending_with}
use Rattle.rt_core.specs.Core.{Core}
use Rattle.rt_core.specs.Trace.{happen, core_after}

pub arrivals_pend : (img : Image) (irqs : List ℕ) (c : Core) → record c { pending = pending_with irqs c.pending }
    ≡ core_after img c (map Arrive irqs)
unfolding core_after happen
arrivals_pend img [] c = refl
arrivals_pend img (irq ∷ irqs) c = arrivals_pend img irqs (record c { pending = slice_set c.pending irq true })

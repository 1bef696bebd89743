-- Requests keep the time.
use Rattle.std.proofs.Common.{◌≡◌, ℕ, List, [], ◌∷◌, map, refl}
use Rattle.rt_ids.specs.Event.{Arrive}
use Rattle.rt_code.specs.Image.{Image}
use Rattle.rt_core.specs.Core.{Core}
use Rattle.rt_core.specs.Trace.{core_after, happen}
use Rattle.rt_core.specs.Transfer.{core_after_pend}

-- time rises by ticks alone
pub arrivals_keep_time : (img : Image) (c : Core) (irqs : List ℕ) → (core_after img c (map Arrive irqs)).time ≡ c.time
unfolding core_after happen
arrivals_keep_time img c [] = refl
arrivals_keep_time img c (irq ∷ irqs) = arrivals_keep_time img (core_after_pend c irq) irqs

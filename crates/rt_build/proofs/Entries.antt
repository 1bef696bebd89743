-- Where the dispatchers begin, by the addresses that their code was given.
use Rattle.std.proofs.Common.{◌≡◌, ℕ, Some, slice_get, slice_index, sym, ap}
use Rattle.rt_ids.specs.Lists.{or_zero}
use Rattle.rt_app.specs.Tree.{App}
use Rattle.rt_app.specs.Level.{levels}
use Rattle.rt_build.specs.Inside.Code.{entries_of}
use Rattle.rt_build.specs.declared.code.Code.{Code}
use Rattle.rt_build.proofs.Levels.{index_is}

-- the dispatcher of the level at an index
pub dispatcher_entry : (app : App) (code : Code) (k p : ℕ) → slice_get (levels app) k ≡ Some p
    → slice_index code.dispatchers.items k ≡ (entries_of app code).dispatcher p
dispatcher_entry app code k p there =
    ap (λ o. slice_index code.dispatchers.items (or_zero o)) (sym (index_is app k p there))

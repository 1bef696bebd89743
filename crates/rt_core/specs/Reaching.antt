-- Core steps up to the first that gives an item. Each is a `step`: a trap gives its item and stops the core, and a core
-- that is stopped takes silent steps.
use Rattle.std.specs.Prelude.{◌≡◌, ℕ, suc, ◌+◌, ◌≤◌, List, [], ◌∷◌, ◌++◌, replicate, Option, Some, None}
use Rattle.rt_ids.specs.Event.{Step}
use Rattle.rt_code.specs.Image.{Image}
use Rattle.rt_trace.specs.Label.{Label, Stepped}
use Rattle.rt_trace.specs.declared.item.What.{What}
use Rattle.rt_core.specs.Core.{Core}
use Rattle.rt_core.specs.Machine.{Machine}
use Rattle.rt_core.specs.Trace.{core_after, labels}

-- so many silent steps, and one more where there is an item
abbrev pub and_the_last : ℕ → Option What → ℕ
and_the_last silent None = silent
and_the_last silent (Some w) = suc silent

-- the step that gives an item, where there is one
abbrev pub label_of_item : Option What → List Label
label_of_item None = []
label_of_item (Some w) = Stepped (Some w) ∷ []

-- So many steps lead from the old core to the new one. Where there is an item the last of them gives it, and the others
-- are silent; where there is none all are silent.
pub record Reaches (img : Image) (old new : Core) (done : ℕ) (shown : Option What) : Type 0 where
  pub silent : ℕ
  pub count : done ≡ and_the_last silent shown
  pub core : new ≡ core_after img old (replicate done Step)
  pub shows : labels img old (replicate done Step) ≡ replicate silent (Stepped None) ++ label_of_item shown

-- Steps lead from the old machine to the new one up to the first that gives an item, at most so many: where none gives
-- one these are done, and no other.
pub record StepsToItem (most : ℕ) (old new : Machine) (shown : Option What) : Type 0 where
  pub done : ℕ
  pub reaches : Reaches old.image old.core new.core done shown
  pub within : done ≤ most
  pub all : shown ≡ None → done ≡ most
  pub image : new.image ≡ old.image
  pub steps : new.steps ≡ old.steps + done

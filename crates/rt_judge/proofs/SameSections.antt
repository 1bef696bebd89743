-- The test of two sections.
use Rattle.std.proofs.Common.{◌≡◌, ◌↔◌, Bool, true, false, IsTrue, refl}
use Rattle.rt_actions.specs.Location.{is_same_section}
use Rattle.rt_actions.proofs.Sections.{one_section}
use Rattle.rt_ids.specs.declared.ids.Section.{Section}
use Rattle.rt_code.proofs.Mine.{same_section}

pub tests_same : (r : Bool) (x y : Section) → IsTrue r ↔ (x ≡ y) → r ≡ is_same_section x y
tests_same true x y h = let e : x ≡ y = h.0 refl in rw e (rw (same_section y) refl)
tests_same false x y h = elim (is_same_section x y) as (λ b. is_same_section x y ≡ b → false ≡ b) [
  | true ↦ λ e. h.1 (one_section x y e)
  | false ↦ λ e. refl
] refl

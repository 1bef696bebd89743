-- The execution priority by going over the open sections from the inside: in which order they are counted does not
-- matter.
use Rattle.std.proofs.Common.{◌≡◌, ℕ, min, List, [], ◌∷◌, refl, sym, ap, ◌∙◌, arith}
use Rattle.rt_code.specs.Image.{Image}
use Rattle.rt_points.specs.ExecutionPriority.{lowered_value, owner_value, execution_priority}
use Rattle.rt_points.specs.declared.point.SectionKind.{SectionKind}
use Rattle.rt_points.specs.declared.point.SectionKind.TheVariants.{Mark, Raise, Mask}
use Rattle.rt_points.specs.declared.point.Opened.{Opened}
use Rattle.rt_points.specs.declared.point.Owner.{Owner}

abbrev pub priority_over : ℕ → List Opened → ℕ
priority_over value [] = value
priority_over value (o ∷ outer) = lowered_value o.kind (priority_over value outer)

pub execution_priority_over : (img : Image) (owner : Owner) (inside : List Opened)
    → priority_over (owner_value img owner) inside ≡ execution_priority img owner inside
execution_priority_over img owner [] = refl
execution_priority_over img owner (o ∷ outer) = ap (lowered_value o.kind) (execution_priority_over img owner outer)

min_zero : (v : ℕ) → min v 0 ≡ 0
min_zero v = omega arith

min_swap : (u v n : ℕ) → min u (min v n) ≡ min v (min u n)
min_swap u v n = omega arith

swapped : (k j : SectionKind) (v : ℕ) → lowered_value k (lowered_value j v) ≡ lowered_value j (lowered_value k v)
swapped Mark j v = refl
swapped (Raise s u) Mark v = refl
swapped (Raise s u) (Raise t w) v = min_swap u w v
swapped (Raise s u) (Mask t) v = min_zero u
swapped (Mask s) Mark v = refl
swapped (Mask s) (Raise t w) v = sym (min_zero w)
swapped (Mask s) (Mask t) v = refl

pub priority_over_more : (k : SectionKind) (value : ℕ) (outer : List Opened)
    → priority_over (lowered_value k value) outer ≡ lowered_value k (priority_over value outer)
priority_over_more k value [] = refl
priority_over_more k value (o ∷ outer) =
    ap (lowered_value o.kind) (priority_over_more k value outer) ∙ swapped o.kind k (priority_over value outer)

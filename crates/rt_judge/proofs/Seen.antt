-- Points that were looked at, with one more.
use Rattle.std.proofs.Common.{◌≡◌, ◌↔◌, ◌&&◌, Bool, true, IsTrue, zero, suc, List, [], ◌∷◌, ◌++◌}
use Rattle.std.proofs.Common.{Some, ap, subst, inl, inr}
use Rattle.std.specs.List.{AllByRecursion, list_any}
use Rattle.std.proofs.lemmas.Option.{same_Some, none-some}
use Rattle.rt_lemmas.proofs.Bools.{and_parts, and_both, or_left, or_right, or_cases}
use Rattle.rt_lemmas.proofs.Membership.{all_append}
use Rattle.rt_ids.specs.Choice.{IsIn}
use Rattle.rt_actions.specs.Location.{is_same_section}
use Rattle.rt_actions.proofs.Sections.{one_section}
use Rattle.rt_ids.specs.declared.ids.Section.{Section}
use Rattle.rt_points.specs.Point.{Point, sections}
use Rattle.rt_points.specs.declared.point.Opened.{Opened}
use Rattle.rt_judge.specs.Inside.Kept.{TellsOfAll}
use Rattle.rt_code.proofs.Mine.{same_section}

pub all_front : {A : Type 0} (P : A → Type 0) (xs : List A) (x : A) → AllByRecursion P (xs ++ x ∷ [])
    → AllByRecursion P xs
all_front P [] x all = tt
all_front P (y ∷ xs) x all = (all.0, all_front P xs x all.1)

pub all_last : {A : Type 0} (P : A → Type 0) (xs : List A) (x : A) → AllByRecursion P (xs ++ x ∷ []) → P x
all_last P [] x all = all.0
all_last P (y ∷ xs) x all = all_last P xs x all.1

-- a test of all points so far, and one of the next
pub tells_more : (b r : Bool) (P : Point → Type 0) (ps : List Point) (p : Point) → TellsOfAll b P ps → IsTrue r ↔ P p
    → TellsOfAll (b && r) P (ps ++ p ∷ [])
tells_more b r P ps p tells one = (
  λ both. let parts = and_parts b r both in all_append P ps (p ∷ []) (tells.0 parts.0) (one.0 parts.1, tt),
  λ all. and_both b r (tells.1 (all_front P ps p all)) (one.1 (all_last P ps p all)),
)

-- the test for a section that is open
pub any_inside : (x : Section) (inside : List Opened) → list_any (λ o. is_same_section o.section x) inside ≡ true
    → IsIn (sections inside) x
any_inside x [] is = absurd cc
any_inside x (o ∷ outer) is = elim (or_cases (is_same_section o.section x)
    (list_any (λ o. is_same_section o.section x) outer) is) [
      | inl here ↦ (0, ap Some (one_section o.section x here))
      | inr there ↦ let rest = any_inside x outer there in (suc rest.0, rest.1)
    ]

pub inside_any : (x : Section) (inside : List Opened) → IsIn (sections inside) x
    → list_any (λ o. is_same_section o.section x) inside ≡ true
inside_any x [] (i, at) = absurd (none-some x at)
inside_any x (o ∷ outer) (zero, at) =
    or_left (is_same_section o.section x) (list_any (λ o. is_same_section o.section x) outer)
    (subst (λ y. is_same_section o.section y ≡ true) (same_Some o.section x at) (same_section o.section))
inside_any x (o ∷ outer) (suc i, at) =
    or_right (is_same_section o.section x) (list_any (λ o. is_same_section o.section x) outer)
    (inside_any x outer (i, at))

-- The addresses that an instruction leads to are those of the list.
use Rattle.std.proofs.Common.{◌≡◌, ℕ, suc, true, false, [], ◌∷◌, refl, sym, inl, inr, subst}
use Rattle.std.specs.List.{AllByRecursion, Contains}
use Rattle.rt_code.specs.declared.instr.Instr.{Instr}
use Rattle.rt_code.specs.declared.instr.Instr.TheVariants as instr
use Rattle.rt_lemmas.proofs.Membership.{contains_here, contains_there}
use Rattle.rt_points.specs.declared.point.Owner.{Owner}
use Rattle.rt_points.specs.declared.point.Owner.TheVariants.{Starting}
use Rattle.rt_points.specs.Leading.{LeadsOn, owner_after}
use Rattle.rt_judge.specs.Inside.Exits.{targets, ends_init}

only : (a to : ℕ) → to ≡ a → Contains (a ∷ []) to
only a to is = subst (λ n. Contains (a ∷ []) n) (sym is) (contains_here a [])

pub leads_listed : (i : Instr) (at to : ℕ) → LeadsOn i at to → Contains (targets i at) to
leads_listed (instr.Jump l) at to is = only l to is
leads_listed (instr.JumpZ s l) at to (inl is) =
    subst (λ n. Contains (suc at ∷ l ∷ []) n) (sym is) (contains_here (suc at) (l ∷ []))
leads_listed (instr.JumpZ s l) at to (inr is) = contains_there (suc at) (l ∷ []) to (only l to is)
leads_listed instr.Wait at to is = only at to is
leads_listed (instr.Call row s) at to is = absurd is
leads_listed instr.Back at to is = absurd is
leads_listed instr.Ret at to is = absurd is
leads_listed i at to is = only (suc at) to is

pub listed_leads : (i : Instr) (at : ℕ) → AllByRecursion (λ to. LeadsOn i at to) (targets i at)
listed_leads (instr.Jump l) at = (refl, tt)
listed_leads (instr.JumpZ s l) at = (inl refl, (inr refl, tt))
listed_leads instr.Wait at = (refl, tt)
listed_leads (instr.Call row s) at = tt
listed_leads instr.Back at = tt
listed_leads instr.Ret at = tt
listed_leads i at = (refl, tt)

pub ends : (i : Instr) (owner : Owner) → ends_init i owner ≡ true → (i ≡ instr.Serve) × (owner ≡ Starting)
ends instr.Serve Starting is = (refl, refl)
ends i owner is = absurd cc

pub goes_on : (i : Instr) (owner : Owner) → ends_init i owner ≡ false → owner_after i owner ≡ owner
goes_on instr.Serve Starting is = absurd cc
goes_on i owner is = refl

pub stays : (i : Instr) (owner : Owner) → owner_after i owner ≡ owner → ends_init i owner ≡ false
stays instr.Serve Starting is = absurd cc
stays i owner is = refl

pub leaves : (i : Instr) (owner : Owner) → (owner_after i owner ≡ owner → ⊥) → ends_init i owner ≡ true
leaves instr.Serve Starting other = refl
leaves i owner other = absurd (other refl)

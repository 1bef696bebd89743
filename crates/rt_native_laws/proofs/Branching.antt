-- No function is called where LR stays as it is, or an exception returns.
use Rattle.std.proofs.Common.{◌≡◌, ◌≢◌, ◌∙◌, ℕ, ◌+◌, ◌<◌, ◌≤◌, List, ◌∷◌, Some, sym, ap, subst, arith, length, ⊎_elim}
use Rattle.std.proofs.lemmas.Bool.{cases_eq}
use Rattle.rt_thumb.specs.Effect.{effect}
use Rattle.rt_thumb.specs.Machine.{Machine, Returned, Seen}
use Rattle.rt_thumb.specs.Step.{Program}
use Rattle.rt_thumb.specs.declared.instruction.Instruction.{Instruction}
use Rattle.rt_thumb.specs.declared.instruction.Instruction.TheVariants as instruction
use Rattle.rt_native_laws.specs.Own.{Executes}
use Rattle.rt_native_laws.specs.Relating.{CallsNone}
use Rattle.rt_native_laws.proofs.Prefixes.{same_some}

pub not_longer : (x : Seen) (xs : List Seen) → xs ≡ x ∷ xs → ⊥
not_longer x xs e = let longer = ap length e in omega (arith, longer)

module _ (p : Program) (j : Instruction) (m n : Machine) (exec : Executes p j m n) where
  -- where it is a BL, what it leads to has the address behind it in LR, and others have seen nothing of it
  branches : (d : ℕ) → p.code m.address ≡ Some (instruction.Call d)
      → (n.register 14 ≡ m.address + 4 + 1) × (n.seen ≡ m.seen)
  branches d found =
      let is : j ≡ instruction.Call d = same_some j (instruction.Call d) (sym exec.found ∙ found) in
      let does : effect p.port (instruction.Call d) m ≡ Some n =
      subst (λ (i : Instruction). effect p.port i m ≡ Some n) is exec.does in
      let there = same_some _ n does in
      (sym (ap (λ (y : Machine). y.register 14) there), sym (ap (λ (y : Machine). y.seen) there))

  pub none_by_link : m.address < 0xE0000000 → n.register 14 ≡ m.register 14
      → (m.exception ≢ 0 → 0xF0000000 ≤ m.register 14) → CallsNone p m
  none_by_link low same high d found =
      ⊎_elim (λ (e : m.exception ≡ 0). e)
      (λ (e : m.exception ≢ 0). absurd (omega (arith, (branches d found).0, same, high e, low)))
      (cases_eq m.exception 0)

  pub none_by_return : (e : ℕ) → n.seen ≡ Returned e ∷ m.seen → CallsNone p m
  none_by_return e seen d found = absurd (not_longer (Returned e) m.seen (sym (branches d found).1 ∙ seen))

-- The first return of an interrupt within so many core steps, and its first take and return, with a label in front.
use Rattle.std.proofs.Common.{◌≡◌, ℕ, ◌+◌, ◌≤◌, true, false, List, [], ◌∷◌, ◌++◌, Option, Some, None, ap, ◌∙◌, arith}
use Rattle.std.specs.List.{AllByRecursion}
use Rattle.std.proofs.lemmas.Bool.{eqb-true}
use Rattle.rt_trace.specs.Label.{Label, Arrived, Ticked, Rang, Stepped, steps_of}
use Rattle.rt_trace.specs.declared.item.What.{What}
use Rattle.rt_trace.specs.declared.item.What.TheVariants as what
use Rattle.rt_trace.proofs.LabelsShown.{steps_cons}
use Rattle.rt_laws.specs.Waiting.{is_take, is_return}
use Rattle.rt_rta.specs.Served.{ServedIn}

-- the first return of an interrupt within so many core steps
pub record ReturnsIn (irq steps : ℕ) (labels : List Label) : Type 0 where
  pub serving : List Label
  pub behind : List Label
  pub parts : labels ≡ serving ++ Stepped (Some (what.Ret irq)) ∷ behind
  pub first_return : AllByRecursion (λ label. is_return irq label ≡ false) serving
  pub in_time : steps_of serving + 1 ≤ steps

module _ (irq : ℕ) where
  pub return_is : (label : Label) → is_return irq label ≡ true → label ≡ Stepped (Some (what.Ret irq))
  return_is (Arrived i) is = cc
  return_is Ticked is = cc
  return_is Rang is = cc
  return_is (Stepped None) is = cc
  return_is (Stepped (Some (what.Ret j))) is = ap (λ i. Stepped (Some (what.Ret i))) (eqb-true j irq is)
  return_is (Stepped (Some w)) is = cc

  -- a label more in front, with what it takes of the steps
  pub one_returns : (steps total : ℕ) (label : Label) (labels : List Label) → is_return irq label ≡ false
      → steps_of (label ∷ []) + steps ≡ total → ReturnsIn irq steps labels → ReturnsIn irq total (label ∷ labels)
  one_returns steps total label labels other sum returns = record {
    serving = label ∷ returns.serving;
    behind = returns.behind;
    parts = ap (λ xs. label ∷ xs) returns.parts;
    first_return = (other, returns.first_return);
    in_time = let time = returns.in_time in let count = steps_cons label returns.serving in
        omega (arith, time, count, sum);
  }

  pub one_served : (steps total : ℕ) (label : Label) (labels : List Label) → is_take irq label ≡ false
      → steps_of (label ∷ []) + steps ≡ total → ServedIn irq steps labels → ServedIn irq total (label ∷ labels)
  one_served steps total label labels other sum served = record {
    waiting = label ∷ served.waiting;
    depth = served.depth;
    serving = served.serving;
    behind = served.behind;
    parts = ap (λ xs. label ∷ xs) served.parts;
    first_take = (other, served.first_take);
    first_return = served.first_return;
    in_time = let time = served.in_time in let count = steps_cons label served.waiting in
        omega (arith, time, count, sum);
  }

-- a take in front of a return
pub taken_parts : (shown : Option What) (j d irq k : ℕ) (labels : List Label) (rest : ReturnsIn irq k labels)
    → Stepped shown ≡ Stepped (Some (what.Take j d)) → j ≡ irq
    → Stepped shown ∷ labels
    ≡ Stepped (Some (what.Take irq d)) ∷ (rest.serving ++ Stepped (Some (what.Ret irq)) ∷ rest.behind)
taken_parts shown j d irq k labels rest is same =
    ap (λ label. label ∷ labels) (is ∙ ap (λ i. Stepped (Some (what.Take i d))) same)
    ∙ ap (λ xs. Stepped (Some (what.Take irq d)) ∷ xs) rest.parts

-- Parts of code that lies in a program.
use Rattle.std.proofs.Common.{◌≡◌, ℕ, ◌+◌, List, [], ◌∷◌, ◌++◌, sym, ap, subst, ◌∙◌, arith, add-zero}
use Rattle.std.proofs.lemmas.List.Sums.{sum_by-cons}
use Rattle.rt_native.specs.Pieces.{bytes_of}
use Rattle.rt_thumb.specs.Encoding.{encode, size}
use Rattle.rt_thumb.specs.Step.{Program}
use Rattle.rt_thumb.specs.declared.instruction.Instruction.{Instruction}
use Rattle.rt_priorities.specs.Lying.{LieFrom}

pub lie_front : (p : Program) (xs ys : List Instruction) (a : ℕ) → LieFrom p a (xs ++ ys) → LieFrom p a xs
lie_front p [] ys a code = tt
lie_front p (x ∷ xs) ys a code = (code.0, lie_front p xs ys (a + size (encode x)) code.1)

pub lie_behind : (p : Program) (xs ys : List Instruction) (a : ℕ) → LieFrom p a (xs ++ ys)
    → LieFrom p (a + bytes_of xs) ys
lie_behind p [] ys a code = subst (λ n. LieFrom p n ys) (sym (add-zero a)) code
lie_behind p (x ∷ xs) ys a code =
    subst (λ n. LieFrom p n ys)
    (joined a (size (encode x)) (bytes_of xs) ∙ ap (λ n. a + n) (sym (sum_by-cons (λ j. size (encode j)) x xs)))
    (lie_behind p xs ys (a + size (encode x)) code.1)
  where
    joined : (a b d : ℕ) → a + b + d ≡ a + (b + d)
    joined a b d = omega arith

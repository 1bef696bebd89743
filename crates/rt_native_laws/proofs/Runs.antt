-- Runs of private instructions, one part behind the other.
use Rattle.std.proofs.Common.{ℕ, ◌+◌, List, [], ◌∷◌, ◌++◌, refl, subst}
use Rattle.rt_thumb.specs.Encoding.{encode, size}
use Rattle.rt_thumb.specs.Machine.{Machine}
use Rattle.rt_thumb.specs.Step.{Program}
use Rattle.rt_thumb.specs.declared.instruction.Instruction.{Instruction}
use Rattle.rt_native_laws.specs.Own.{RunsPrivately, Spans}

-- two parts of code, and where the first ends
pub record Parts (p : Program) (from : ℕ) (xs ys : List Instruction) (to : ℕ) : Type 0 where
  pub middle : ℕ
  pub first : Spans p from xs middle
  pub second : Spans p middle ys to

-- code in two parts
pub parts_of : (p : Program) (from : ℕ) (xs ys : List Instruction) (to : ℕ) → Spans p from (xs ++ ys) to
    → Parts p from xs ys to
parts_of p from [] ys to s = record { middle = from; first = refl; second = s }
parts_of p from (x ∷ xs) ys to s =
    let rest = parts_of p (from + size (encode x)) xs ys to s.1 in
    record { middle = rest.middle; first = (s.0, rest.first); second = rest.second }

-- runs one behind the other
pub runs_on : (p : Program) (floor top : ℕ) (xs ys : List Instruction) (m n o : Machine)
    → RunsPrivately p floor top xs m n → RunsPrivately p floor top ys n o → RunsPrivately p floor top (xs ++ ys) m o
runs_on p floor top [] ys m n o r s = subst (λ (k : Machine). RunsPrivately p floor top ys k o) r s
runs_on p floor top (x ∷ xs) ys m n o r s = (r.0, r.1, runs_on p floor top xs ys r.0 n o r.2 s)

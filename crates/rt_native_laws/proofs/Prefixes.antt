-- Runs of one code from one state are one run; and where one code has two parts in two ways.
use Rattle.std.proofs.Common.{◌≡◌, ◌∙◌, ℕ, List, [], ◌∷◌, ◌++◌, Some, sym, refl, ap, subst}
use Rattle.rt_thumb.specs.Effect.{effect}
use Rattle.rt_thumb.specs.Machine.{Machine}
use Rattle.rt_thumb.specs.Step.{Program}
use Rattle.rt_thumb.specs.declared.instruction.Instruction.{Instruction}
use Rattle.rt_native_laws.specs.Own.{Executes, RunsPrivately}

pub same_some : {A : Type 0} (x y : A) → Some x ≡ Some y → x ≡ y
same_some x y e = cc

pub same_head : {A : Type 0} (x y : A) (xs ys : List A) → x ∷ xs ≡ y ∷ ys → x ≡ y
same_head x y xs ys e = cc

pub same_tail : {A : Type 0} (x y : A) (xs ys : List A) → x ∷ xs ≡ y ∷ ys → xs ≡ ys
same_tail x y xs ys e = cc

-- what is executed at a state, and where it leads
pub same_found : (p : Program) (i j : Instruction) (m n o : Machine) → Executes p i m n → Executes p j m o → i ≡ j
same_found p i j m n o a b = same_some i j (sym a.found ∙ b.found)

pub same_next : (p : Program) (i j : Instruction) (m n o : Machine) → Executes p i m n → Executes p j m o → n ≡ o
same_next p i j m n o a b =
    same_some n o (sym a.does ∙ (ap (λ (x : Instruction). effect p.port x m) (same_found p i j m n o a b) ∙ b.does))

-- what is left of a run of two parts behind the first
pub rest_of : (p : Program) (floor top : ℕ) (xs ys : List Instruction) (m n o : Machine)
    → RunsPrivately p floor top (xs ++ ys) m o → RunsPrivately p floor top xs m n → RunsPrivately p floor top ys n o
rest_of p floor top [] ys m n o r s = subst (λ (k : Machine). RunsPrivately p floor top ys k o) (sym s) r
rest_of p floor top (x ∷ xs) ys m n o r s =
    rest_of p floor top xs ys s.0 n o
    (subst (λ (k : Machine). RunsPrivately p floor top (xs ++ ys) k o)
    (same_next p x x m r.0 s.0 r.1.executes s.1.executes) r.2) s.2

-- two runs of one code lead to one state
pub same_run : (p : Program) (floor top : ℕ) (xs : List Instruction) (m n o : Machine)
    → RunsPrivately p floor top xs m n → RunsPrivately p floor top xs m o → n ≡ o
same_run p floor top [] m n o r s = r ∙ sym s
same_run p floor top (x ∷ xs) m n o r s =
    same_run p floor top xs s.0 n o
    (subst (λ (k : Machine). RunsPrivately p floor top xs k n)
    (same_next p x x m r.0 s.0 r.1.executes s.1.executes) r.2) s.2

-- Where one of a list's items is, against another: before it, the same, or behind it.
pub data Place {A : Type 0} (passed : List A) (next : A) (left front : List A) (commit : A) (back : List A)
    : Type 0 where
  Before : (rest : List A) → front ≡ passed ++ next ∷ rest → left ≡ rest ++ commit ∷ back
      → Place passed next left front commit back
  There : passed ≡ front → next ≡ commit → left ≡ back → Place passed next left front commit back
  Past : (more : List A) → passed ≡ front ++ commit ∷ more → back ≡ more ++ next ∷ left
      → Place passed next left front commit back

one_more : {A : Type 0} (x y : A) (xs : List A) (n : A) (l fs : List A) (c : A) (b : List A) → x ≡ y
    → Place xs n l fs c b → Place (x ∷ xs) n l (y ∷ fs) c b
one_more x y xs n l fs c b e (Before rest f g) =
    Before rest (ap (λ z. z ∷ fs) (sym e) ∙ ap (λ zs. x ∷ zs) f) g
one_more x y xs n l fs c b e (There f g h) = There (ap (λ z. z ∷ xs) e ∙ ap (λ zs. y ∷ zs) f) g h
one_more x y xs n l fs c b e (Past more f g) =
    Past more (ap (λ z. z ∷ xs) e ∙ ap (λ zs. y ∷ zs) f) g

pub compare : {A : Type 0} (passed : List A) (next : A) (left front : List A) (commit : A) (back : List A)
    → passed ++ next ∷ left ≡ front ++ commit ∷ back → Place passed next left front commit back
compare [] n l [] c b e = There refl (same_head n c l b e) (same_tail n c l b e)
compare [] n l (f ∷ fs) c b e =
    Before fs (ap (λ z. z ∷ fs) (sym (same_head n f l (fs ++ c ∷ b) e))) (same_tail n f l (fs ++ c ∷ b) e)
compare (x ∷ xs) n l [] c b e =
    Past xs (ap (λ z. z ∷ xs) (same_head x c (xs ++ n ∷ l) b e)) (sym (same_tail x c (xs ++ n ∷ l) b e))
compare (x ∷ xs) n l (f ∷ fs) c b e =
    one_more x f xs n l fs c b (same_head x f (xs ++ n ∷ l) (fs ++ c ∷ b) e)
    (compare xs n l fs c b (same_tail x f (xs ++ n ∷ l) (fs ++ c ∷ b) e))

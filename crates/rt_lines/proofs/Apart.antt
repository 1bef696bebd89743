-- Things that a table says of a fixed number of words are told apart by their words, whatever follows those.
use Rattle.std.proofs.Common.{◌≡◌, ℕ, Bool, true, false, List, ◌∷◌, ◌++◌, map, ap, sym, ◌∙◌, subst}
use Rattle.std.specs.List.{AllByRecursion, list_all}
use Rattle.std.proofs.lemmas.Bool.{false≢true}
use Rattle.std.proofs.lemmas.Option.{same_Some}
use Rattle.rt_ids.specs.Names.{Names}
use Rattle.rt_lines.specs.Operand.{OperandKind, OperandValue, word}
use Rattle.rt_lines.specs.Table.{Shape, Alone, One, Two, Three, OneOrTwo, AndNumbers, Row, Operand, operand_word}
use Rattle.rt_lines.specs.Table.{IsSaid}
use Rattle.rt_lines.specs.Table.{EachSaid, Agree, shape_of}
use Rattle.rt_lines.proofs.Told.{said_each, shape_has, rows_pass}

pub same_cons : {A : Type 0} (x y : A) (xs ys : List A) → x ∷ xs ≡ y ∷ ys → (x ≡ y) × (xs ≡ ys)
same_cons x y xs ys e = (cc, cc)

-- a shape of a fixed number of words
abbrev pub is_fixed : {T : Type 0} → Shape T → Bool
is_fixed (OneOrTwo k one l m two) = false
is_fixed (AndNumbers k most says) = false
is_fixed shape = true

module _ (names : Names) (P : Operand → Type 0)
    (tells : (k : OperandKind) (v w : OperandValue k) → P (k, v) → P (k, w) → word names k v ≡ word names k w
    → v ≡ w) where
  -- where two of these are not one thing, their words differ
  abbrev AreApart : {T : Type 0} → T → List Operand → T → List Operand → Type 0
  AreApart x os y ps =
      AllByRecursion P os → AllByRecursion P ps → (r s : List (List ℕ))
      → map (operand_word names) os ++ r ≡ map (operand_word names) ps ++ s → (x ≡ y) × (r ≡ s)

  shape_apart : {T : Type 0} (shape : Shape T) → is_fixed shape ≡ true
      → EachSaid (λ x os. EachSaid (AreApart x os) shape) shape
  shape_apart (Alone x) fixed = λ p q r s e. (cc, e)
  shape_apart (One k says) fixed = λ v w p q r s e.
      let a = same_cons (word names k v) (word names k w) r s e in (ap says (tells k v w p.0 q.0 a.0), a.1)
  shape_apart (Two k l says) fixed = λ v u w z p q r s e.
      let a = same_cons (word names k v) (word names k w) (word names l u ∷ r) (word names l z ∷ s) e in
      let b = same_cons (word names l u) (word names l z) r s a.1 in
      let first : v ≡ w = tells k v w p.0 q.0 a.0 in
      let second : u ≡ z = tells l u z p.1.0 q.1.0 b.0 in
      (cc, b.1)
  shape_apart (Three k l m says) fixed = λ v u t w z y p q r s e.
      let a = same_cons (word names k v) (word names k w) (word names l u ∷ word names m t ∷ r)
      (word names l z ∷ word names m y ∷ s) e in
      let b = same_cons (word names l u) (word names l z) (word names m t ∷ r) (word names m y ∷ s) a.1 in
      let c = same_cons (word names m t) (word names m y) r s b.1 in
      let first : v ≡ w = tells k v w p.0 q.0 a.0 in
      let second : u ≡ z = tells l u z p.1.0 q.1.0 b.0 in
      let third : t ≡ y = tells m t y p.1.1.0 q.1.1.0 c.0 in
      (cc, c.1)
  shape_apart (OneOrTwo k one l m two) fixed = absurd (false≢true fixed)
  shape_apart (AndNumbers k most says) fixed = absurd (false≢true fixed)

  module _ {T : Type 0} (own : Bool) (table : List (Row T)) (first : T → List ℕ) (operands : T → List Operand)
      (CanBeSaid : T → Type 0) (agree : Agree own table first operands CanBeSaid)
      (fixed : list_all (λ row. is_fixed row.shape) table ≡ true) where
    pub told_apart : (x y : T) → CanBeSaid x → CanBeSaid y → AllByRecursion P (operands x)
        → AllByRecursion P (operands y) → (r s : List (List ℕ))
        → first x ∷ (map (operand_word names) (operands x) ++ r) ≡ first y ∷ (map (operand_word names)
        (operands y) ++ s)
        → (x ≡ y) × (r ≡ s)
    told_apart x y can_x can_y p q r s e =
        let heads = same_cons (first x) (first y) (map (operand_word names) (operands x) ++ r)
        (map (operand_word names) (operands y) ++ s) e in
        let a = agree.each x can_x in
        let b = agree.each y can_y in
        let same : a.0 ≡ b.0 = same_Some a.0 b.0 (sym a.1 ∙ ap (shape_of table) heads.0 ∙ b.1) in
        let said : IsSaid a.0 y (operands y) =
        subst (λ (shape : Shape T). IsSaid shape y (operands y)) (sym same) b.2 in
        let fix = shape_has (first x) a.0 (λ shape. is_fixed shape ≡ true) table (rows_pass is_fixed table fixed) a.1 in
        said_each (AreApart x (operands x)) a.0
        (said_each (λ z os. EachSaid (AreApart z os) a.0) a.0 (shape_apart a.0 fix) x (operands x) a.2)
        y (operands y) said p q r s heads.1

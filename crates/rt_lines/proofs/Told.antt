-- What is written by a table is read as what it says, and what is read is written so.
use Rattle.std.proofs.Common.{◌≡◌, ◌≤◌, ◌^◌, ℕ, zero, suc, Bool, true, false, List, [], ◌∷◌, length, map, bytes_eq}
use Rattle.std.proofs.Common.{Some}
use Rattle.std.proofs.Common.{Result, Ok, Err, if◌then◌else◌}
use Rattle.std.proofs.Common.{refl, ap, sym, ◌∙◌, subst, arith, inl, inr}
use Rattle.std.specs.List.{AllByRecursion, list_all}
use Rattle.std.specs.Result.{IfOk}
use Rattle.std.proofs.lemmas.Option.{same_Some}
use Rattle.std.proofs.lemmas.Result.{IfOk-weaker, IfOk-at_ok}
use Rattle.rt_lemmas.proofs.Bools.{and_left, and_right}
use Rattle.rt_ids.specs.Lists.{AreDifferent}
use Rattle.rt_ids.specs.Names.{Names, AreNames}
use Rattle.rt_lines.specs.Answers.{and_make}
use Rattle.rt_lines.specs.Operand.{OperandKind, OperandValue, HasWord, word, read_at, number_at}
use Rattle.rt_lines.specs.Table.{Shape, Alone, One, Two, Three, OneOrTwo, AndNumbers, Row, Number32, both, one_at}
use Rattle.rt_lines.specs.Table.{two_at, numbers_at}
use Rattle.rt_lines.specs.Table.{shape_at, said_at, shape_of, Operand, IsWritten, operand_word, is_plain}
use Rattle.rt_lines.specs.Table.{is_plain_shape}
use Rattle.rt_lines.specs.Table.{IsSaid, EachSaid, Agree}
use Rattle.rt_lines.specs.declared.operand.Wrong.{Wrong}
use Rattle.rt_lines.specs.declared.operand.Wrong.TheVariants as wrong
use Rattle.rt_lines.proofs.Decoded.{if_ok_then, if_ok_make}
use Rattle.rt_lines.proofs.Spelled.{HasThis, equals, spelled, word_is_read}

-- an operand of a kind whose words tell it
abbrev pub IsPlain : Bool → Operand → Type 0
IsPlain own operand = is_plain own operand.0 ≡ true

numbers_plain : (own : Bool) (ns : List ℕ) → AllByRecursion (IsPlain own) (map (λ n. (Number32, n)) ns)
numbers_plain own [] = tt
numbers_plain own (n ∷ ns) = (refl, numbers_plain own ns)

said_plain : {T : Type 0} (own : Bool) (shape : Shape T) (x : T) (os : List Operand) → is_plain_shape own shape ≡ true
    → IsSaid shape x os → AllByRecursion (IsPlain own) os
said_plain own (Alone y) x os plain said = subst (AllByRecursion (IsPlain own)) (sym said.1) tt
said_plain own (One k says) x os plain said = subst (AllByRecursion (IsPlain own)) (sym said.2) (plain, tt)
said_plain own (Two k l says) x os plain said =
    subst (AllByRecursion (IsPlain own)) (sym said.3) (and_left _ _ plain, (and_right _ _ plain, tt))
said_plain own (Three k l m says) x os plain said = subst (AllByRecursion (IsPlain own)) (sym said.4)
    (and_left _ _ (and_left _ _ plain), (and_right _ _ (and_left _ _ plain), (and_right _ _ plain, tt)))
said_plain own (OneOrTwo k one l m two) x os plain (inl said) =
    subst (AllByRecursion (IsPlain own)) (sym said.2) (and_left _ _ (and_left _ _ plain), tt)
said_plain own (OneOrTwo k one l m two) x os plain (inr said) =
    subst (AllByRecursion (IsPlain own)) (sym said.3) (and_right _ _ (and_left _ _ plain), (and_right _ _ plain, tt))
said_plain own (AndNumbers k most says) x os plain said =
    subst (AllByRecursion (IsPlain own)) (sym said.4) (plain, numbers_plain own said.1)

module _ (names : Names) (are : AreNames names) (own : Bool) where
  operand_read : (k : OperandKind) (v : OperandValue k) → is_plain own k ≡ true → HasWord names k v
      → read_at k names (word names k v) ≡ Ok v
  operand_read k v plain has = word_is_read names own k v plain are has

  numbers_read : (most : ℕ) (ns : List ℕ) → length ns ≤ most
      → AllByRecursion (IsWritten names) (map (λ n. (Number32, n)) ns)
      → numbers_at most (map (operand_word names) (map (λ n. (Number32, n)) ns)) ≡ Ok ns
  numbers_read most [] few all = refl
  numbers_read zero (n ∷ ns) few all = absurd (omega arith)
  numbers_read (suc most) (n ∷ ns) few all =
      rw (operand_read Number32 n refl all.0, numbers_read most ns (omega arith) all.1) refl

-- what is said by operands that have words is read of the words
module _ {T : Type 0} (names : Names) (are : AreNames names) (own : Bool) where
  -- the words of these operands, where they have words, say this
  abbrev Tells : Shape T → T → List Operand → Type 0
  Tells shape x os = AllByRecursion (IsPlain own) os → AllByRecursion (IsWritten names) os
      → shape_at shape names (map (operand_word names) os) ≡ Ok x

  tells : (shape : Shape T) (x y : T) (os ps : List Operand) → x ≡ y → os ≡ ps → Tells shape y ps → Tells shape x os
  tells shape x y os ps e f h = subst (λ z. Tells shape z os) (sym e) (subst (Tells shape y) (sym f) h)

  shape_told : (shape : Shape T) (x : T) (os : List Operand) → IsSaid shape x os → Tells shape x os
  shape_told (Alone y) x os said = tells (Alone y) x y os [] said.0 said.1 (λ plain all. refl)
  shape_told (One k says) x os said = tells (One k says) x _ os _ said.1 said.2
      (λ plain all. rw (operand_read names are own k said.0 plain.0 all.0) refl)
  shape_told (Two k l says) x os said = tells (Two k l says) x _ os _ said.2 said.3
      (λ plain all. rw (
        operand_read names are own k said.0 plain.0 all.0,
        operand_read names are own l said.1
            plain.1.0 all.1.0,
      ) refl)
  shape_told (Three k l m says) x os said = tells (Three k l m says) x _ os _ said.3 said.4
      (λ plain all. rw (
        operand_read names are own k said.0 plain.0 all.0,
        operand_read names are own l said.1
            plain.1.0 all.1.0,
        operand_read names are own m said.2 plain.1.1.0 all.1.1.0,
      ) refl)
  shape_told (OneOrTwo k one l m two) x os (inl said) = tells (OneOrTwo k one l m two) x _ os _ said.1 said.2
      (λ plain all. rw (operand_read names are own k said.0 plain.0 all.0) refl)
  shape_told (OneOrTwo k one l m two) x os (inr said) = tells (OneOrTwo k one l m two) x _ os _ said.2 said.3
      (λ plain all. rw (
        operand_read names are own l said.0 plain.0 all.0,
        operand_read names are own m said.1
            plain.1.0 all.1.0,
      ) refl)
  shape_told (AndNumbers k most says) x os said = tells (AndNumbers k most says) x _ os _ said.3 said.4
      (λ plain all. rw (
        operand_read names are own k said.0 plain.0 all.0,
        numbers_read names are own most said.1
            said.2 all.1,
      ) refl)

module _ {A B : Type 0} (P : A → Type 0) (Q : B → Type 0) where
  if_ok_both : (r : Result A Wrong) (s : Result B Wrong) → IfOk r P → IfOk s Q → IfOk (both r s) (λ p. P p.0 × Q p.1)
  if_ok_both (Ok a) (Ok b) p q = (p, q)
  if_ok_both (Ok a) (Err w) p q = tt
  if_ok_both (Err w) (Ok b) p q = tt
  if_ok_both (Err wrong.Name) (Err w) p q = tt
  if_ok_both (Err wrong.Form) (Err w) p q = tt

module _ (names : Names) (own : Bool) (differ : own ≡ true → AreDifferent (map (λ irq. irq.1) names.irqs)) where
  -- these are the words of operands that have words
  abbrev AreWords : List (List ℕ) → List Operand → Type 0
  AreWords words os = (words ≡ map (operand_word names) os) × AllByRecursion (IsWritten names) os

  more : (k : OperandKind) (v : OperandValue k) (a : List ℕ) (words : List (List ℕ)) (os : List Operand)
      → HasThis names a k v
      → AreWords words os → AreWords (a ∷ words) ((k, v) ∷ os)
  more k v a words os this are = (ap (λ b. b ∷ words) this.1 ∙ ap (λ ws. word names k v ∷ ws) are.0, (this.0, are.1))

  one_spells : (k : OperandKind) → is_plain own k ≡ true → (words : List (List ℕ))
      → IfOk (one_at (read_at k) names words) (λ v. AreWords words ((k, v) ∷ []))
  one_spells k plain [] = tt
  one_spells k plain (a ∷ []) = IfOk-weaker (read_at k names a) _ _ (λ v h. more k v a [] [] h (refl, tt))
      (spelled names a own k plain differ)
  one_spells k plain (a ∷ b ∷ words) = tt

  then_spells : {B : Type 0} (k : OperandKind) → is_plain own k ≡ true
      → (a : List ℕ) (words : List (List ℕ)) (s : Result B Wrong)
      (os : B → List Operand) → IfOk s (λ y. AreWords words (os y))
      → IfOk (both (read_at k names a) s) (λ p. AreWords (a ∷ words) ((k, p.0) ∷ os p.1))
  then_spells k plain a words s os h = IfOk-weaker (both (read_at k names a) s) _ _
      (λ p h. more k p.0 a words (os p.1) h.0 h.1)
      (if_ok_both (HasThis names a k) (λ y. AreWords words (os y)) (read_at k names a) s
      (spelled names a own k plain differ) h)

  two_spells : (k l : OperandKind) → is_plain own k ≡ true → is_plain own l ≡ true → (words : List (List ℕ))
      → IfOk (two_at (read_at k) (read_at l) names words) (λ p. AreWords words ((k, p.0) ∷ (l, p.1) ∷ []))
  two_spells k l first second [] = tt
  two_spells k l first second (a ∷ words) = then_spells k first a words (one_at (read_at l) names words) (λ v.
      (l, v) ∷ []) (one_spells l second words)

  numbers_spell : (most : ℕ) (words : List (List ℕ))
      → IfOk (numbers_at most words) (λ ns. (length ns ≤ most) × AreWords words (map (λ n. (Number32, n)) ns))
  numbers_spell most [] = (omega arith, (refl, tt))
  numbers_spell zero (a ∷ words) = tt
  numbers_spell (suc most) (a ∷ words) =
      if_ok_then (λ ns. (length ns ≤ suc most) × AreWords (a ∷ words) (map (λ n. (Number32, n)) ns)) (number_at
      (2 ^ 32) a)
      (λ n. and_make (numbers_at most words) (λ ns. n ∷ ns)) _ (spelled names a own Number32 refl differ)
      (λ n h. if_ok_make _ (numbers_at most words) (λ ns. n ∷ ns) _ (numbers_spell most words)
      (λ ns rest. let few : length ns ≤ most = rest.0 in (
        omega arith,
        more Number32 n a words (map (λ n.
            (Number32, n)) ns) h rest.1,
      )))

  -- what a shape says of these words, it says by operands of which they are the words
  abbrev Spells : {T : Type 0} → Shape T → List (List ℕ) → T → Type 0
  Spells shape words x = (os : List Operand) × IsSaid shape x os × AreWords words os

  shape_spells : {T : Type 0} (shape : Shape T) → is_plain_shape own shape ≡ true → (words : List (List ℕ))
      → IfOk (shape_at shape names words) (Spells shape words)
  shape_spells (Alone x) plain [] = ([], (refl, refl), (refl, tt))
  shape_spells (Alone x) plain (a ∷ words) = tt
  shape_spells (One k says) plain words =
      if_ok_make (Spells (One k says) words) (one_at (read_at k) names words) says _ (one_spells k plain words)
      (λ v h. ((k, v) ∷ [], (v, refl, refl), h))
  shape_spells (Two k l says) plain words =
      if_ok_make (Spells (Two k l says) words) (two_at (read_at k) (read_at l) names words) (λ p. says p.0 p.1) _
      (two_spells k l (and_left _ _ plain) (and_right _ _ plain) words)
      (λ p h. ((k, p.0) ∷ (l, p.1) ∷ [], (p.0, p.1, refl, refl), h))
  shape_spells (Three k l m says) plain [] = tt
  shape_spells (Three k l m says) plain (a ∷ words) =
      if_ok_make (Spells (Three k l m says) (a ∷ words))
      (both (read_at k names a) (two_at (read_at l) (read_at m) names words)) (λ p. says p.0 p.1.0 p.1.1) _
      (then_spells k (and_left _ _ (and_left _ _ plain)) a words (two_at (read_at l) (read_at m) names words)
      (λ p. (l, p.0) ∷ (m, p.1) ∷ []) (two_spells l m (and_right _ _ (and_left _ _ plain)) (and_right _ _ plain) words))
      (λ p h. ((k, p.0) ∷ (l, p.1.0) ∷ (m, p.1.1) ∷ [], (p.0, p.1.0, p.1.1, refl, refl), h))
  shape_spells (OneOrTwo k one l m two) plain [] = tt
  shape_spells (OneOrTwo k one l m two) plain (a ∷ []) =
      if_ok_make (Spells (OneOrTwo k one l m two) (a ∷ [])) (read_at k names a) one _
      (one_spells k (and_left _ _ (and_left _ _ plain)) (a ∷ []))
      (λ v h. ((k, v) ∷ [], inl (v, refl, refl), h))
  shape_spells (OneOrTwo k one l m two) plain (a ∷ b ∷ words) =
      if_ok_make (Spells (OneOrTwo k one l m two) (a ∷ b ∷ words)) (two_at (read_at l) (read_at m) names
      (a ∷ b ∷ words)) (λ p. two p.0 p.1) _
      (two_spells l m (and_right _ _ (and_left _ _ plain)) (and_right _ _ plain) (a ∷ b ∷ words))
      (λ p h. ((l, p.0) ∷ (m, p.1) ∷ [], inr (p.0, p.1, refl, refl), h))
  shape_spells (AndNumbers k most says) plain [] = tt
  shape_spells (AndNumbers k most says) plain (a ∷ words) =
      if_ok_make (Spells (AndNumbers k most says) (a ∷ words)) (both (read_at k names a) (numbers_at most words))
      (λ p. says p.0 p.1) _
      (if_ok_both (HasThis names a k) _ (read_at k names a) (numbers_at most words)
      (spelled names a own k plain differ) (numbers_spell most words))
      (λ p h. (
        (k, p.0) ∷ map (λ n. (Number32, n)) p.1,
        (p.0, p.1, h.1.0, refl, refl),
        more k p.0 a words (map (λ n.
            (Number32, n)) p.1) h.0 h.1.1,
      ))

-- what is said by a shape is what the shape says
pub said_each : {T : Type 0} (P : T → List Operand → Type 0) (shape : Shape T) → EachSaid P shape → (x : T)
    (os : List Operand)
    → IsSaid shape x os → P x os
said_each P (Alone y) each x os said = rw (said.0, said.1) each
said_each P (One k says) each x os said = rw (said.1, said.2) (each said.0)
said_each P (Two k l says) each x os said = rw (said.2, said.3) (each said.0 said.1)
said_each P (Three k l m says) each x os said = rw (said.3, said.4) (each said.0 said.1 said.2)
said_each P (OneOrTwo k one l m two) each x os (inl said) = rw (said.1, said.2) (each.0 said.0)
said_each P (OneOrTwo k one l m two) each x os (inr said) = rw (said.2, said.3) (each.1 said.0 said.1)
said_each P (AndNumbers k most says) each x os said = rw (said.3, said.4) (each said.0 said.1 said.2)

module _ {T : Type 0} (first : List ℕ) (shape : Shape T) where
  -- by the row of a first word all is said that begins with it
  pub said_by : (table : List (Row T)) → shape_of table first ≡ Some shape → (names : Names) (words : List (List ℕ))
      → said_at table names first words ≡ shape_at shape names words
  said_by [] is names words = absurd (cc)
  said_by (row ∷ rows) is names words = by (bytes_eq first row.first) is (λ e. said_by rows e names words)
    where
      by : (here : Bool) → (if here then Some row.shape else shape_of rows first) ≡ Some shape
          → (shape_of rows first ≡ Some shape → said_at rows names first words ≡ shape_at shape names words)
          → (if here then shape_at row.shape names words else said_at rows names first words) ≡ shape_at shape names
          words
      by true e rest = ap (λ (s : Shape T). shape_at s names words) (same_Some row.shape shape e)
      by false e rest = rest e

  pub shape_has : (Q : Shape T → Type 0) (table : List (Row T)) → AllByRecursion (λ row. Q row.shape) table
      → shape_of table first ≡ Some shape → Q shape
  shape_has Q [] all is = absurd (cc)
  shape_has Q (row ∷ rows) all is = by (bytes_eq first row.first) is (shape_has Q rows all.1)
    where
      by : (here : Bool) → (if here then Some row.shape else shape_of rows first) ≡ Some shape
          → (shape_of rows first ≡ Some shape → Q shape) → Q shape
      by true e rest = subst Q (same_Some row.shape shape e) all.0
      by false e rest = rest e

-- a test of all rows holds of each
pub rows_pass : {T : Type 0} (test : Shape T → Bool) (table : List (Row T))
    → list_all (λ row. test row.shape) table ≡ true → AllByRecursion (λ row. test row.shape ≡ true) table
rows_pass test [] all = tt
rows_pass test (row ∷ rows) all = (and_left _ _ all, rows_pass test rows (and_right _ _ all))

module _ {T : Type 0} (own : Bool) (table : List (Row T)) (first : T → List ℕ) (operands : T → List Operand)
    (CanBeSaid : T → Type 0) (agree : Agree own table first operands CanBeSaid) where
  pub operands_plain : (x : T) → CanBeSaid x → AllByRecursion (IsPlain own) (operands x)
  operands_plain x can = let each = agree.each x can in
      said_plain own each.0 x (operands x) (shape_has (first x) each.0 (λ shape. is_plain_shape own shape ≡ true) table
      (rows_pass (is_plain_shape own) table agree.plain) each.1) each.2

  pub written_is_read : (names : Names) → AreNames names → (x : T) → CanBeSaid x
      → AllByRecursion (IsWritten names) (operands x)
      → said_at table names (first x) (map (operand_word names) (operands x)) ≡ Ok x
  written_is_read names are x can written =
      let each = agree.each x can in
      said_by (first x) each.0 table each.1 names (map (operand_word names) (operands x))
      ∙ shape_told names are own each.0 x (operands x) each.2 (operands_plain x can) written

  -- what is said by a row of this first word
  abbrev ByRow : List ℕ → T → List Operand → Type 0
  ByRow word x os = (first x ≡ word) × (operands x ≡ os) × CanBeSaid x

  module _ (names : Names) (differ : own ≡ true → AreDifferent (map (λ irq. irq.1) names.irqs)) (w : List ℕ)
      (ws : List (List ℕ)) where
    -- these words are written of what is said
    abbrev AreWritten : T → Type 0
    AreWritten x = (w ≡ first x) × (ws ≡ map (operand_word names) (operands x))
        × AllByRecursion (IsWritten names) (operands x) × CanBeSaid x

    rows_spell : (rows : List (Row T)) → list_all (λ row. is_plain_shape own row.shape) rows ≡ true
        → AllByRecursion (λ row. EachSaid (ByRow row.first) row.shape) rows
        → IfOk (said_at rows names w ws) AreWritten
    rows_spell [] plain all = tt
    rows_spell (row ∷ rows) plain all =
        equals w AreWritten row.first (shape_at row.shape names ws) (said_at rows names w ws)
        (λ same. IfOk-weaker (shape_at row.shape names ws) _ AreWritten
        (λ x h. let by = said_each (ByRow row.first) row.shape all.0 x h.0 h.1 in (
          same ∙ sym by.0,
          h.2.0 ∙ ap (map (operand_word names)) (sym by.1),
          subst (AllByRecursion (IsWritten names))
              (sym by.1) h.2.1,
          by.2,
        ))
        (shape_spells names own differ row.shape (and_left _ _ plain) ws))
        (rows_spell rows (and_right _ _ plain) all.1)

  pub read_is_written : (names : Names) → (own ≡ true → AreDifferent (map (λ irq. irq.1) names.irqs))
      → (word : List ℕ) (words : List (List ℕ)) (x : T) → said_at table names word words ≡ Ok x
      → (word ≡ first x) × (words ≡ map (operand_word names) (operands x))
      × AllByRecursion (IsWritten names) (operands x) × CanBeSaid x
  read_is_written names differ word words x is =
      IfOk-at_ok (AreWritten names differ word words) is
      (rows_spell names differ word words table agree.plain agree.all)

-- A table of words: for each first word the kinds of the words behind it, and what all of them say together. What is
-- said is read off such a table; and what is to be said is a first word with operands, which its row tells again.
use Rattle.std.specs.Prelude.{◌≡◌, ◌⊎◌, ℕ, zero, suc, ◌^◌, ◌≤◌, ◌&&◌, nat_le, Bool, true, if◌then◌else◌, bytes_eq}
use Rattle.std.specs.Prelude.{List, [], ◌∷◌, length, map, flat_map, Option, Some, None, Result, Ok, Err}
use Rattle.std.specs.List.{AllByRecursion, list_all}
use Rattle.rt_ids.specs.Names.{Names}
use Rattle.rt_lines.specs.Answers.{and_then, and_make}
use Rattle.rt_lines.specs.Operand.{OperandKind, Number, IrqName, OperandValue}
use Rattle.rt_lines.specs.Operand.{HasWord, word, read_at, number_at}
use Rattle.rt_lines.specs.declared.operand.Wrong.{Wrong}
use Rattle.rt_lines.specs.declared.operand.Wrong.TheVariants as wrong

-- the kinds of the words behind a first word, and what they say
pub data Shape (T : Type 0) : Type 0 where
  Alone : (said : T) → Shape T
  One : (k : OperandKind) → (says : OperandValue k → T) → Shape T
  Two : (k l : OperandKind) → (says : OperandValue k → OperandValue l → T) → Shape T
  Three : (k l m : OperandKind) → (says : OperandValue k → OperandValue l → OperandValue m → T) → Shape T
  -- one word, or two
  OneOrTwo : (k : OperandKind) → (one : OperandValue k → T) → (l m : OperandKind)
      → (two : OperandValue l → OperandValue m → T) → Shape T
  -- one word, and at most so many numbers of 32 bits
  AndNumbers : (k : OperandKind) → (most : ℕ) → (says : OperandValue k → List ℕ → T) → Shape T

-- a row of a table
pub record Row (T : Type 0) : Type 0 where
  pub first : List ℕ
  pub shape : Shape T

-- the row of a first word
abbrev pub row : {T : Type 0} → List ℕ → Shape T → Row T
row first shape = record { first = first; shape = shape }

-- a number of 32 bits
abbrev pub Number32 : OperandKind
Number32 = Number (2 ^ 32)

-- a number of 8 bits
abbrev pub Number8 : OperandKind
Number8 = Number (2 ^ 8)

-- What two words say. Where one of them is of no form, both are; only where neither is, a name is unknown.
abbrev pub both : {A B : Type 0} → Result A Wrong → Result B Wrong → Result (A × B) Wrong
both (Ok a) (Ok b) = Ok (a, b)
both (Ok a) (Err w) = Err w
both (Err w) (Ok b) = Err w
both (Err wrong.Name) (Err w) = Err w
both (Err w) (Err v) = Err w

-- no words
abbrev pub none_at : {A : Type 0} → A → List (List ℕ) → Result A Wrong
none_at x [] = Ok x
none_at x words = Err wrong.Form

-- one word, read so
abbrev pub one_at : {A : Type 0} → (Names → List ℕ → Result A Wrong) → Names → List (List ℕ) → Result A Wrong
one_at f names (a ∷ []) = f names a
one_at f names words = Err wrong.Form

-- a word, and what those behind it say
abbrev pub then_at : {A B : Type 0} → (Names → List ℕ → Result A Wrong) → (List (List ℕ) → Result B Wrong) → Names
    → List (List ℕ) → Result (A × B) Wrong
then_at f rest names [] = Err wrong.Form
then_at f rest names (a ∷ words) = both (f names a) (rest words)

-- two words
abbrev pub two_at : {A B : Type 0} → (Names → List ℕ → Result A Wrong) → (Names → List ℕ → Result B Wrong) → Names
    → List (List ℕ) → Result (A × B) Wrong
two_at f g names words = then_at f (one_at g names) names words

-- three words
abbrev pub three_at : {A B C : Type 0} → (Names → List ℕ → Result A Wrong) → (Names → List ℕ → Result B Wrong)
    → (Names → List ℕ → Result C Wrong) → Names → List (List ℕ) → Result (A × (B × C)) Wrong
three_at f g h names words = then_at f (two_at g h names) names words

-- numbers of 32 bits, of which there are no more than there is room for
abbrev pub numbers_at : ℕ → List (List ℕ) → Result (List ℕ) Wrong
numbers_at room [] = Ok []
numbers_at zero (word ∷ words) = Err wrong.Form
numbers_at (suc room) (word ∷ words) =
    and_then (number_at (2 ^ 32) word) (λ n. and_make (numbers_at room words) (λ ns. n ∷ ns))

-- what the words behind a first word say
abbrev pub shape_at : {T : Type 0} → Shape T → Names → List (List ℕ) → Result T Wrong
shape_at (Alone x) names words = none_at x words
shape_at (One k says) names words = and_make (one_at (read_at k) names words) says
shape_at (Two k l says) names words = and_make (two_at (read_at k) (read_at l) names words) (λ v. says v.0 v.1)
shape_at (Three k l m says) names words =
    and_make (three_at (read_at k) (read_at l) (read_at m) names words) (λ v. says v.0 v.1.0 v.1.1)
shape_at (OneOrTwo k one l m two) names (a ∷ []) = and_make (read_at k names a) one
shape_at (OneOrTwo k one l m two) names words =
    and_make (two_at (read_at l) (read_at m) names words) (λ v. two v.0 v.1)
shape_at (AndNumbers k most says) names words =
    and_make (then_at (read_at k) (numbers_at most) names words) (λ v. says v.0 v.1)

-- what a first word and the words behind it say, by a table
abbrev pub said_at : {T : Type 0} → List (Row T) → Names → List ℕ → List (List ℕ) → Result T Wrong
said_at [] names first words = Err wrong.Form
said_at (row ∷ rows) names first words =
    if bytes_eq first row.first then shape_at row.shape names words else said_at rows names first words

-- a value with its kind
abbrev pub Operand : Type 0
Operand = (k : OperandKind) × OperandValue k

-- an operand has a word
abbrev pub IsWritten : Names → Operand → Type 0
IsWritten names operand = HasWord names operand.0 operand.1

-- the word of an operand
abbrev pub operand_word : Names → Operand → List ℕ
operand_word names operand = word names operand.0 operand.1

-- words behind others, with a space in front of each
abbrev pub spaced_text : List (List ℕ) → List ℕ
spaced_text words = flat_map (λ word. 32 ∷ word) words

-- What is written in words of a kind is told by its word: a number has ten digits at most, as is looked for; and a name
-- is that of a declared interrupt only where each of those has a number of its own.
abbrev pub is_plain : Bool → OperandKind → Bool
is_plain own (Number bound) = nat_le bound (2 ^ 32)
is_plain own IrqName = own
is_plain own k = true

-- in words of all kinds of a shape it is
abbrev pub is_plain_shape : {T : Type 0} → Bool → Shape T → Bool
is_plain_shape own (Alone x) = true
is_plain_shape own (One k says) = is_plain own k
is_plain_shape own (Two k l says) = is_plain own k && is_plain own l
is_plain_shape own (Three k l m says) = is_plain own k && is_plain own l && is_plain own m
is_plain_shape own (OneOrTwo k one l m two) = is_plain own k && is_plain own l && is_plain own m
is_plain_shape own (AndNumbers k most says) = is_plain own k

-- an operand of a kind says this
abbrev pub IsOne : {T : Type 0} → (k : OperandKind) → (OperandValue k → T) → T → List Operand → Type 0
IsOne k says x operands = (v : OperandValue k) × (x ≡ says v) × (operands ≡ (k, v) ∷ [])

-- two operands do
abbrev pub IsTwo : {T : Type 0} → (k l : OperandKind) → (OperandValue k → OperandValue l → T) → T → List Operand
    → Type 0
IsTwo k l says x operands =
    (v : OperandValue k) × (w : OperandValue l) × (x ≡ says v w) × (operands ≡ (k, v) ∷ (l, w) ∷ [])

-- a shape says this of these operands
abbrev pub IsSaid : {T : Type 0} → Shape T → T → List Operand → Type 0
IsSaid (Alone y) x operands = (x ≡ y) × (operands ≡ [])
IsSaid (One k says) x operands = IsOne k says x operands
IsSaid (Two k l says) x operands = IsTwo k l says x operands
IsSaid (Three k l m says) x operands =
    (v : OperandValue k) × (w : OperandValue l) × (u : OperandValue m) × (x ≡ says v w u)
    × (operands ≡ (k, v) ∷ (l, w) ∷ (m, u) ∷ [])
IsSaid (OneOrTwo k one l m two) x operands = IsOne k one x operands ⊎ IsTwo l m two x operands
IsSaid (AndNumbers k most says) x operands =
    (v : OperandValue k) × (ns : List ℕ) × (length ns ≤ most) × (x ≡ says v ns)
    × (operands ≡ (k, v) ∷ map (λ n. (Number32, n)) ns)

-- this holds of each thing that a shape says, and of the operands of which it says it
abbrev pub EachSaid : {T : Type 0} → (T → List Operand → Type 0) → Shape T → Type 0
EachSaid P (Alone x) = P x []
EachSaid P (One k says) = (v : OperandValue k) → P (says v) ((k, v) ∷ [])
EachSaid P (Two k l says) = (v : OperandValue k) (w : OperandValue l) → P (says v w) ((k, v) ∷ (l, w) ∷ [])
EachSaid P (Three k l m says) =
    (v : OperandValue k) (w : OperandValue l) (u : OperandValue m) → P (says v w u) ((k, v) ∷ (l, w) ∷ (m, u) ∷ [])
EachSaid P (OneOrTwo k one l m two) =
    ((v : OperandValue k) → P (one v) ((k, v) ∷ []))
    × ((v : OperandValue l) (w : OperandValue m) → P (two v w) ((l, v) ∷ (m, w) ∷ []))
EachSaid P (AndNumbers k most says) =
    (v : OperandValue k) (ns : List ℕ) → length ns ≤ most → P (says v ns) ((k, v) ∷ map (λ n. (Number32, n)) ns)

-- the shape of a first word
abbrev pub shape_of : {T : Type 0} → List (Row T) → List ℕ → Option (Shape T)
shape_of [] first = None
shape_of (row ∷ rows) first = if bytes_eq first row.first then Some row.shape else shape_of rows first

-- A table, and how things that can be said are written, as a first word with operands, agree: a thing is said by the
-- row of its first word, and whatever a row says is written by that row. Where interrupts are named in the table, each
-- is to have a number of its own.
pub record Agree {T : Type 0} (own : Bool) (table : List (Row T)) (first : T → List ℕ) (operands : T → List Operand)
    (CanBeSaid : T → Type 0) : Type 0 where
  pub plain : list_all (λ row. is_plain_shape own row.shape) table ≡ true
  pub each :
      (x : T) → CanBeSaid x
      → (shape : Shape T) × (shape_of table (first x) ≡ Some shape) × IsSaid shape x (operands x)
  pub all :
      AllByRecursion (λ row. EachSaid (λ x os. (first x ≡ row.first) × (operands x ≡ os) × CanBeSaid x) row.shape) table

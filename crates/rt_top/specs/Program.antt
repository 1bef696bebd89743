-- What a program is: its commands, the words that name each, the kinds of the texts that each reads, and what each is
-- to write for them. `rtic` is one (`Rtic.antt`), and what is said of every program is said once, over such a record.
use Rattle.std.specs.Prelude.{ℕ, List, [], ◌∷◌}
use Rattle.rt_ids.specs.declared.status.Status.{Status}

-- the texts that the sources have given in this call; one that was not read gave none
pub record Inputs : Type 0 where
  pub first : List ℕ
  pub second : List ℕ
  pub third : List ℕ

-- these three texts
abbrev pub inputs : List ℕ → List ℕ → List ℕ → Inputs
inputs first second third = record { first = first; second = second; third = third }

-- all of them, in order
abbrev pub each_of : Inputs → List (List ℕ)
each_of t = t.first ∷ t.second ∷ t.third ∷ []

-- A program. A kind has a bound on the bytes of its texts, and a text is of its kind or is refused, not both
-- (`OneOfEachKind`).
pub record Program : Type 1 where
  -- a command, with its numbers
  pub Command : Type 0
  -- the words name this command
  pub Names : List (List ℕ) → Command → Type 0
  -- a kind of texts
  pub Kind : Type 0
  -- the kinds of the texts that a command reads, one of each of its sources, in this order
  pub kinds_of : Command → List Kind
  -- the most bytes of a text of the kind
  pub most_bytes : Kind → ℕ
  -- of the texts that a command reads, those over which a text is read
  pub Over : Type 0
  pub over : Inputs → Over
  -- the text is of the kind
  pub IsOfKind : Kind → Over → List ℕ → Type 0
  -- the text is none of the kind, and is refused with this status and this line
  pub IsRefusedBy : Kind → Over → List ℕ → Status → List ℕ → Type 0
  -- with this status these bytes are the output for texts of their kinds
  pub IsOutputOf : Command → Inputs → Status → List ℕ → Type 0

-- What a program is to write, and its status, for a command and the texts that its sources give.
use Rattle.std.specs.Prelude.{◌≡◌, ◌≤◌, ◌⊎◌, ℕ, List, [], ◌∷◌, length, take, Some, slice_get}
use Rattle.rt_ids.specs.declared.status.Status.{Status}
use Rattle.rt_ids.specs.declared.status.Status.TheVariants as status
use Rattle.rt_outside.specs.Bytes.{Took, TookPrefix}
use Rattle.rt_top.specs.Program.{Program, Inputs, each_of}

-- the words name a command
abbrev pub IsCommand : Program → List (List ℕ) → Type 0
IsCommand p words = (c : p.Command) × p.Names words c

-- one of the texts is refused, each for its kind, and those before it are of theirs
abbrev pub IsRefusedAmong : (p : Program) → List p.Kind → p.Over → List (List ℕ) → Status → List ℕ → Type 0
IsRefusedAmong p [] over texts ended line = ⊥
IsRefusedAmong p (kind ∷ kinds) over [] ended line = ⊥
IsRefusedAmong p (kind ∷ kinds) over (text ∷ texts) ended line =
    p.IsRefusedBy kind over text ended line
    ⊎ (p.IsOfKind kind over text × IsRefusedAmong p kinds over texts ended line)

-- One of the first texts of the command, so many, is refused with this status and line.
abbrev pub IsRefusedWithin : (p : Program) → ℕ → p.Command → Inputs → Status → List ℕ → Type 0
IsRefusedWithin p n c t ended line = IsRefusedAmong p (take n (p.kinds_of c)) (p.over t) (each_of t) ended line

-- the status and the bytes that are due: the refusal of a text, or the output
pub data Defined (p : Program) (c : p.Command) (t : Inputs) : Status → List ℕ → Type 0 where
  refused : (ended : Status) (line : List ℕ) → IsRefusedAmong p (p.kinds_of c) (p.over t) (each_of t) ended line
      → Defined p c t ended line
  output : (ended : Status) (bytes : List ℕ) → p.IsOutputOf c t ended bytes → Defined p c t ended bytes

-- the status is due
abbrev pub IsDue : (p : Program) → p.Command → Inputs → Status → Type 0
IsDue p c t ended = (bytes : List ℕ) × Defined p c t ended bytes

-- a status that tells what was written; the others say why the program stopped
abbrev pub IsAnswer : Status → Type 0
IsAnswer status.Read = ⊥
IsAnswer status.Write = ⊥
IsAnswer status.Memory = ⊥
IsAnswer other = Unit {0}

-- The words name no command that comes to the source behind so many: each reads no more, or one of its texts before it
-- is refused.
abbrev pub Skips : Program → ℕ → List (List ℕ) → Inputs → Type 0
Skips p n words t =
    (c : p.Command) → p.Names words c
    → (length (p.kinds_of c) ≤ n) ⊎ ((ended : Status) × (line : List ℕ) × IsRefusedWithin p n c t ended line)

-- The command reads a text of this kind from the source behind so many, and none of its texts before it is refused.
pub record ComesTo (p : Program) (n : ℕ) (c : p.Command) (t : Inputs) (kind : p.Kind) : Type 0 where
  pub reads : slice_get (p.kinds_of c) n ≡ Some kind
  pub passed : (ended : Status) (line : List ℕ) → IsRefusedWithin p n c t ended line → ⊥

-- the sink took all that is defined
abbrev pub WroteAll : (p : Program) → p.Command → Inputs → Status → List ℕ → List ℕ → Type 0
WroteAll p c t ended before after = (bytes : List ℕ) × Defined p c t ended bytes × Took before after bytes

-- the sink took a beginning of what is defined
abbrev pub WrotePart : (p : Program) → p.Command → Inputs → List ℕ → List ℕ → Type 0
WrotePart p c t before after =
    (ended : Status) × (bytes : List ℕ) × Defined p c t ended bytes × TookPrefix before after bytes

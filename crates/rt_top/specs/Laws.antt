-- Laws of what is defined: a text is of its kind or is refused, not both, and a command and the texts of its sources
-- have one status at most.
use Rattle.std.specs.Prelude.{◌≡◌, ℕ, List}
use Rattle.rt_ids.specs.declared.status.Status.{Status}
use Rattle.rt_top.specs.Program.{Program, Inputs}
use Rattle.rt_top.specs.Defined.{IsDue}

-- no text that is of a kind is refused
abbrev pub OneOfEachKind : Program → Type 0
OneOfEachKind p =
    (kind : p.Kind) (over : p.Over) (text : List ℕ) (ended : Status) (line : List ℕ) → p.IsOfKind kind over text
    → p.IsRefusedBy kind over text ended line → ⊥

-- no two statuses are due
abbrev pub OneStatusIsDue : Program → Type 0
OneStatusIsDue p =
    (c : p.Command) (t : Inputs) (one other : Status) → IsDue p c t one → IsDue p c t other → one ≡ other

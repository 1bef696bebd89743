-- The first violation of a list, found as the list is read.
use Rattle.std.specs.Prelude.{◌==◌, nat_lt, Bool, ◌&&◌, ◌||◌, List, [], ◌∷◌, Option, Some, None, if◌then◌else◌}
use Rattle.rt_app.specs.declared.violation.Violation.{Violation}
use Rattle.rt_app.specs.Violation.{rank}

-- whether a violation is at a smaller offset, or at the same one with a smaller number
abbrev pub is_before : Violation → Violation → Bool
is_before v w = nat_lt v.at w.at || ((v.at == w.at) && nat_lt (rank v.rule) (rank w.rule))

-- the one found so far, or the one that is read where it comes before
abbrev pub earlier : Option Violation → Violation → Option Violation
earlier None v = Some v
earlier (Some w) v = Some (if is_before v w then v else w)

-- the first violation of those found so far and of this list
abbrev pub first_of : Option Violation → List Violation → Option Violation
first_of o [] = o
first_of o (v ∷ vs) = first_of (earlier o v) vs

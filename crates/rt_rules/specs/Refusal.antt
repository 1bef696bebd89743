-- The refusal of an application: its first violation, at the line and the column of its offset.
use Rattle.std.specs.Prelude.{◌≡◌, ℕ, List}
use Rattle.rt_ids.specs.declared.refusal.Fault.{Fault}
use Rattle.rt_ids.specs.declared.refusal.Refusal.TheVariants as refusal
use Rattle.rt_ids.specs.declared.refusal.Refused.{Refused}
use Rattle.rt_ids.specs.declared.refusal.Refused.TheVariants.{At, NoMemory}
use Rattle.rt_lex.specs.Place.{place_of}
use Rattle.rt_app.specs.declared.violation.Violation.{Violation}
use Rattle.rt_app.specs.Violation.{IsFirst}

-- a violation as a refusal, at the line and the column of its offset
abbrev pub fault_at : List ℕ → Violation → Fault
fault_at src v = record { place = place_of src v.at; refusal = refusal.Rule v.rule }

-- the first of all violations, or that memory was wanted
abbrev pub IsRefusal : List ℕ → List Violation → Refused → Type 0
IsRefusal src all (At fault) = (v : Violation) × IsFirst all v × (fault ≡ fault_at src v)
IsRefusal src all NoMemory = Unit {0}

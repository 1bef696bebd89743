-- What holds something that code reads and changes: what a critical section guards, and a local resource, which belongs
-- to one body (the RTIC 1 book, resources). A local resource has no section.
use Rattle.std.specs.Prelude.{ℕ, Bool, true, false, ◌==◌}
use Rattle.rt_ids.specs.declared.ids.Section.{Section}
use Rattle.rt_ids.specs.declared.ids.Section.TheVariants as section

-- something that holds a value or a queue: what a section guards, or a local resource
pub data Location : Type 0 where
  Guarded : (section : Section) → Location
  -- a local resource, by its index in the order of declaration
  Own : (local : ℕ) → Location

-- whether two sections are one
abbrev pub is_same_section : Section → Section → Bool
is_same_section (section.Res a) (section.Res b) = a == b
is_same_section (section.Free a) (section.Free b) = a == b
is_same_section (section.Ready a) (section.Ready b) = a == b
is_same_section section.Timer section.Timer = true
is_same_section a b = false

-- whether two locations are one
abbrev pub is_same_location : Location → Location → Bool
is_same_location (Guarded a) (Guarded b) = is_same_section a b
is_same_location (Own a) (Own b) = a == b
is_same_location a b = false

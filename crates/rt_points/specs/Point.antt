-- Where code can be: at an address, for someone who runs it, with some sections open. It is what can be known of a
-- moment without the data: an abstract state of a data flow analysis (Kildall, A Unified Approach to Global Program
-- Optimization, 1973), as the Java verifier has one (The Java Virtual Machine Specification, section 4.10.2).
use Rattle.std.specs.Prelude.{ℕ, List, map}
use Rattle.rt_ids.specs.declared.ids.Section.{Section}
-- whose code runs: `init`, the thread after it, or the handler of the interrupt at an index in the table of interrupts
pub use Rattle.rt_points.specs.declared.point.Owner.{Owner}
pub use Rattle.rt_points.specs.declared.point.Owner.TheVariants.{Starting, Thread, Handling}
-- How an open section holds others off: by nothing; or by BASEPRI, raised to a value, or by PRIMASK, and what the mask
-- was before is saved in a slot (ARMv7-M Architecture Reference Manual, section B1.4.3).
pub use Rattle.rt_points.specs.declared.point.SectionKind.{SectionKind}
pub use Rattle.rt_points.specs.declared.point.SectionKind.TheVariants.{Mark, Raise, Mask}
-- an open section, with its kind
pub use Rattle.rt_points.specs.declared.point.Opened.{Opened}

-- a point of the code: an address, who runs there, and which sections are open
pub record Point : Type 0 where
  pub address : ℕ
  pub owner : Owner
  -- the open sections, innermost first
  pub inside : List Opened

-- what the open sections guard
abbrev pub sections : List Opened → List Section
sections inside = map (λ o. o.section) inside

-- The lemmas of this crate, a file each. The folders beside them have the proofs of functions, by file and name.
pub mod ExecutionPriority
pub mod SameSections
pub mod ExitLists
pub mod Nestings
pub mod Tables
pub mod Walking
pub mod Seen
pub mod EnteringRows
pub mod Enterings
pub mod Lines
pub mod Touchings
pub mod FindingsSoFar
pub mod GreatestFrames
pub mod Following
pub mod LookingOn
pub mod Looking
pub mod Verdicts

-- The lemmas of this crate, a file each. The folders beside them have the proofs of functions, by file and name.
pub mod Spawning
pub mod Ceilings
pub mod Filling
pub mod Serving
pub mod Resets
pub mod Waiting
pub mod Pending
pub mod Jobs
pub mod Acts
pub mod Idling
pub mod Starting
pub mod Advancing
pub mod SystemCeiling
pub mod Steps
pub mod Showing
pub mod Early
pub mod Putting

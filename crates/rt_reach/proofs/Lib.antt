-- The lemmas of this crate, a file each. The folders beside them have the proofs of functions, by file and name.
pub mod Greatest
pub mod Quiet
pub mod Pended
pub mod Jobs
pub mod Words
pub mod Served
pub mod Reading
pub mod Rising
pub mod Takes
pub mod Running
pub mod Entering
pub mod Deepening
pub mod Climbing
pub mod Ending

-- The lemmas of this crate, a file each. The folders beside them have the proofs of functions, by file and name.
pub mod OnceInitEnds
pub mod Spacing
pub mod Quiet
pub mod Tasks
pub mod Owing
pub mod Spending
pub mod Stepping
pub mod Walk
pub mod Beginning
pub mod InTime
pub mod Responding
pub mod Least
pub mod Telling
pub mod ByClock

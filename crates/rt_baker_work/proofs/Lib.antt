-- The lemmas of this crate, a file each. The folders beside them have the proofs of functions, by file and name.
pub mod Stores
pub mod Walks
pub mod Zeros
pub mod Beginning
pub mod Statements
pub mod Pushing
pub mod Clocks
pub mod Timing
pub mod Handling
pub mod Weights

-- The lemmas of this crate, a file each. The folders beside them have the proofs of functions, by file and name.
pub mod Representing
pub mod Counting
pub mod Running
pub mod Entering
pub mod Returning
pub mod Calling
pub mod Writing

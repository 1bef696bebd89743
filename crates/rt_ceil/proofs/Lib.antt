-- The lemmas of this crate, a file each. The folders beside them have the proofs of functions, by file and name.
pub mod Blocks
pub mod Appended
pub mod Greatest
pub mod Raised
pub mod Filled
pub mod Counted
pub mod Members
pub mod Answer

-- The lemmas of this crate, a file each. The folders beside them have the proofs of functions, by file and name.
pub mod Bits
pub mod Choices
pub mod Declared
pub mod Earliest
pub mod Fold
pub mod Sizes
pub mod Steps
pub mod Uses
pub mod Walks

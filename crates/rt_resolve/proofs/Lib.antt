-- The lemmas of this crate, a file each. The folders beside them have the proofs of functions, by file and name.
pub mod Blocks
pub mod Written
pub mod Marked
pub mod Tested
pub mod Few
pub mod Appended
pub mod KeptBody
pub mod KeptNumbers
pub mod Kept
pub mod Bound
pub mod Arguments

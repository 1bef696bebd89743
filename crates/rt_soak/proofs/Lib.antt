-- The lemmas of this crate, a file each. The folders beside them have the proofs of functions, by file and name.
pub mod Numbering
pub mod Sharing
pub mod Totals

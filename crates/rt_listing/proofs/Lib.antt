-- The lemmas of this crate, a file each. The folders beside them have the proofs of functions, by file and name.
pub mod Told
pub mod Named
pub mod Lines
pub mod Apart
pub mod Rows
pub mod Short

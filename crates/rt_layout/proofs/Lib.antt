-- The lemmas of this crate, a file each. The folders beside them have the proofs of functions, by file and name.
pub mod Rows
pub mod Few
pub mod Growing
pub mod Laying
pub mod Laid

-- The lemmas of this crate, a file each. The folders beside them have the proofs of functions, by file and name.
pub mod Found
pub mod Addresses
pub mod Lines

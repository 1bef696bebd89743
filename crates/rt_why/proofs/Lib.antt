-- The lemmas of this crate, a file each. The folders beside them have the proofs of functions, by file and name.
pub mod Refuting
pub mod SearchingOn
pub mod Clearing
pub mod Wanting
pub mod Breaking
pub mod Unguarding
pub mod NumberRows

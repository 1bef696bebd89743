-- The lemmas of this crate, a file each. The folders beside them have the proofs of functions, by file and name.
pub mod Rising
pub mod Loads
pub mod Once
pub mod Telling

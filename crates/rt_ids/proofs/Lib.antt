-- The lemmas of this crate, a file each. The folders beside them have the proofs of functions, by file and name.
mod Shifts
pub mod Hardware
pub mod Best
pub mod Lists
pub mod Declared
pub mod Greatest
pub mod Numbers

-- The lemmas of this crate, a file each. The folders beside them have the proofs of functions, by file and name.
pub mod Values
pub mod Lexing
pub mod Longest
pub mod OfKind
pub mod Parts
pub mod Gaps
pub mod Unique

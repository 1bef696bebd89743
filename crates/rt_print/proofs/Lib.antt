-- The lemmas of this crate, a file each. The folders beside them have the proofs of functions, by file and name.
pub mod Reading
pub mod Lexemes
pub mod Expressions
pub mod Lists
pub mod Spawns
pub mod Statements
pub mod Declared
pub mod Resources
pub mod Choices
pub mod Bodies
pub mod Law
pub mod Lines
pub mod OpenText

-- The lemmas of this crate, a file each. The folders beside them have the proofs of functions, by file and name.
pub mod Promises
pub mod Owning
pub mod Expressions
pub mod Scopes
pub mod Loops
pub mod Blocks
pub mod Sending
pub mod Storing
pub mod Stored
pub mod Generated
pub mod Emits
pub mod Shapes

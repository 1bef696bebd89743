-- The lemmas of this crate, a file each. The folders beside them have the proofs of functions, by file and name.
pub mod Words
pub mod Dispatchers
pub mod Kept
pub mod Rings
pub mod Loading
pub mod Sizes
pub mod Lasts
pub mod Running
pub mod Choosing
pub mod Dispatching
pub mod Nameable
mod Generated

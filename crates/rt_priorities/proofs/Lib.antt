-- The lemmas of this crate, a file each.
pub mod Agreeing
pub mod Keeping
pub mod Controller
pub mod Memory
pub mod Pieces
pub mod Plain
pub mod Setting
pub mod Running
pub mod Handler
pub mod Lying
pub mod Ticking
pub mod Vectors
pub mod Loading

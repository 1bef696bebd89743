-- The lemmas of this crate, a file each. The folders beside them have the proofs of functions, by file and name.
pub mod Views
pub mod Sums
pub mod Flagging
pub mod Spawners
pub mod Below
pub mod Frames
pub mod Handlers
pub mod Waits
pub mod Tables
pub mod Sections
pub mod Within
pub mod Listed
pub mod NoPend
pub mod Reaching

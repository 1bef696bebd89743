-- The lemmas of this crate, a file each. The folders beside them have the proofs of functions, by file and name.
pub mod Taking
pub mod Ticking
pub mod Worded
pub mod Known
pub mod Advancing
pub mod Sent
pub mod Happened
pub mod Reached
pub mod Scripted
pub mod Brief
pub mod Weighing
pub mod Numbered
pub mod Items

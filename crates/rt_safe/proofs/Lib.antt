-- The lemmas of this crate, a file each. The folders beside them have the proofs of functions, by file and name.
pub mod PointPriorities
pub mod Depth
pub mod Lines
pub mod Keeping
pub mod Execution
pub mod Taking
pub mod Saving
pub mod Advancing
pub mod Sections
pub mod Ending
pub mod Apart
pub mod Stepping
pub mod Seeing
pub mod Running
pub mod Safe
pub mod Runnable

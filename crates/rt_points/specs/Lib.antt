-- The definitions of this crate, a file each.
pub mod Limits
pub mod Point
pub mod Leading
pub mod ExecutionPriority
pub mod Stack
pub mod Rules
pub mod Checked
pub mod Laws
pub mod Constants

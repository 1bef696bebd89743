-- The definitions of this crate, a file each.
pub mod Agreeing
pub mod Keeping
pub mod Controller
pub mod Lying
pub mod Setting
pub mod Ticking
pub mod Vectors
pub mod Loading

-- The definitions of this crate, a file each.
pub mod Region
pub mod Top

-- The definitions of this crate, a file each.
pub mod ReadsBack
pub mod Opened

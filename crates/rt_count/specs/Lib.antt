-- The definitions of this crate, a file each. Those in Inside are for private contracts alone.
pub mod Summary
pub mod Joining
pub mod Text
pub mod Inside

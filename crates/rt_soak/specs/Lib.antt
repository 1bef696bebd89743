-- The definitions of this crate, a file each. Those in Inside are for private contracts alone.
pub mod Demo
pub mod Soak
pub mod Inside

-- The definitions of this crate, a file each. Those in Inside are for private contracts alone.
pub mod Take
pub mod Priorities
pub mod Deepest
pub mod Spelled
pub mod Inside
pub mod Reached

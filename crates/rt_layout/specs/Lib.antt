-- The definitions of this crate, a file each. Those in Inside are for private contracts alone.
pub mod Inside
pub mod Few

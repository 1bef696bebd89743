-- The definitions of this crate, a file each. Those in Inside are for private contracts alone.
pub mod Script
pub mod Wording
pub mod Text
pub mod Generated
pub mod Inside

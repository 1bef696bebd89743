-- The definitions of this crate, a file each. Those in Inside are for private contracts alone.
pub mod Done
pub mod Numbers
pub mod Ranges
pub mod Written
pub mod Writable
pub mod Sending
pub mod Inside

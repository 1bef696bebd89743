-- The definitions of this crate, a file each. Those in Inside are for private contracts alone.
pub mod Faults
pub mod Bytes
pub mod Lines
pub mod Passed
pub mod Memory
pub mod Outside
pub mod Inside

-- The definitions of this crate, a file each. Those in Inside are for private contracts alone.
pub mod Job
pub mod Waiting
pub mod State
pub mod Machine
pub mod Tables
pub mod Inside

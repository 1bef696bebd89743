-- The definitions of this crate, a file each.
pub mod Watching
pub mod InTime
pub mod Waiting
pub mod Told

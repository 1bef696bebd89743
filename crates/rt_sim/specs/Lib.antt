-- The definitions of this crate, a file each. Those in Inside are for private contracts alone.
pub mod Inside
pub mod Guarded
pub mod Whereabouts
pub mod Owned
pub mod Good
pub mod Unspent
pub mod Beside
pub mod Responding

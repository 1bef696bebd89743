-- The definitions of this crate, a file each. Those in Inside are for private contracts alone.
pub mod Actions
pub mod Store
pub mod Todo
pub mod Work
pub mod Code
pub mod Handlers
pub mod Inside

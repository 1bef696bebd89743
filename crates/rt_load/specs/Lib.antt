-- The definitions of this crate, a file each. Those in Inside are for private contracts alone.
pub mod Loadable
pub mod Reading
pub mod Laws
pub mod Inside
pub mod Verdict
pub mod Constants

-- The definitions of this crate, a file each. Those in Inside are for private contracts alone.
pub mod Limits
pub mod Wording
pub mod Text
pub mod Form
pub mod Response
pub mod Report
pub mod Laws
pub mod Inside

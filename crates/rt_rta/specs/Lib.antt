-- The definitions of this crate, a file each. Those in Inside are for private contracts alone.
pub mod Limits
pub mod Wording
pub mod Text
pub mod Response
pub mod Report
pub mod Kept
pub mod Served
pub mod ByClock
pub mod Laws
pub mod Inside
pub mod Constants

-- The definitions of this crate, a file each. Those in Inside are for private contracts alone.
pub mod Accepted
pub mod Entries
pub mod Image
pub mod Inside
pub mod Laws
pub mod Order
pub mod Built

-- The definitions of this crate, a file each.
pub mod Lying
pub mod Laws
pub mod Running
pub mod FromFile

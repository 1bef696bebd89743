-- The definitions of this crate, a file each.
pub mod Served
pub mod Laws

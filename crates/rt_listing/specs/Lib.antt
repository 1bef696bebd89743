-- The definitions of this crate, a file each.
pub mod Words
pub mod Listing
pub mod Injective
pub mod Numbers
pub mod Short

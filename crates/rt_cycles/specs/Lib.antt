-- The definitions of this crate, a file each.
pub mod Table
pub mod Sums
pub mod Report
pub mod Laws

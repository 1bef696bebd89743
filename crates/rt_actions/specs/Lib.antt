-- The definitions of this crate, a file each.
pub mod Location
pub mod Content
pub mod Action
pub mod Doing
pub mod Entry
pub mod Storage

-- The definitions of this crate, a file each.
pub mod Moments
pub mod Served
pub mod Started
pub mod Coming
pub mod Turns
pub mod Rooms
pub mod Laws

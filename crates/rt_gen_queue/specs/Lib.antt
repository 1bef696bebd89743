-- The definitions of this crate, a file each.
pub mod Line
pub mod Guards
pub mod Queue
pub mod Called
pub mod SpawnLines
pub mod SpawnCode
pub mod Spawning
pub mod Making

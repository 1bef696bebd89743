-- The definitions of this crate, a file each. Those in Inside are for private contracts alone.
pub mod Ways
pub mod Holding
pub mod Counting
pub mod CountedWays
pub mod Bounds
pub mod Text
pub mod Laws
pub mod Inside

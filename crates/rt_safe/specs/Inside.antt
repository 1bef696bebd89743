-- What holds of a core at each moment; no public contract cites it.
pub mod RunsAtPoints
pub mod Lines
pub mod Moved
pub mod Steps

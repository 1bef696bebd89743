-- How far a run is written, and on which machines; no public contract cites it.
pub mod Placed
pub mod Ran

-- How far a run is written; no public contract cites it.
pub mod Writing

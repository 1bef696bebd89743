-- How a run is counted; no public contract cites it.
pub mod Adding
pub mod Counting

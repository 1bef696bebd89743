-- How far a run has come, and what a turn asks for.
pub mod Going
pub mod Turning
pub mod Able
pub mod Making

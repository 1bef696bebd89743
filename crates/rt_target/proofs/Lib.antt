pub mod Inputs
pub mod Saying
pub mod Fine
pub mod Named
pub mod Targets
pub mod Wrongly

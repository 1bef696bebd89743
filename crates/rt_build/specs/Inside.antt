-- What serves the contracts of private functions alone.
pub mod Plan
pub mod Code
pub mod Tables

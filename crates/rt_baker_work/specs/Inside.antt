-- What private contracts alone cite.
pub mod Pushes
pub mod Weights

-- What private contracts alone cite.
pub mod Loads
pub mod Least

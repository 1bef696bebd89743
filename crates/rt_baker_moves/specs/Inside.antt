-- What private contracts alone cite.
pub mod Guards
pub mod SystemCeiling
pub mod Waiting
pub mod Acts
pub mod Moves
pub mod Starts
pub mod Shown
pub mod Serving

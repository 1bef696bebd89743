-- What private contracts alone speak of.
pub mod Initial
pub mod Kept

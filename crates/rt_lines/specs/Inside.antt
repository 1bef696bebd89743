-- What private contracts alone speak of, here and in the crates that read lines.
pub mod Progress

-- What private contracts alone cite.
pub mod Tables
pub mod Rows

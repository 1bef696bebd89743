-- What private contracts alone cite.
pub mod Rows
pub mod Rooms
pub mod Growing

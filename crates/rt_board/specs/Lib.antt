pub mod Board
pub mod Wording
pub mod Told
pub mod Wrong

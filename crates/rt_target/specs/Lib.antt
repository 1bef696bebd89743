pub mod Chip
pub mod Setup
pub mod Wording
pub mod Reading
pub mod Told
pub mod Wrong
pub mod Text

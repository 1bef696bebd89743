pub mod Given
pub mod Wording
pub mod Words
pub mod Reading
pub mod Text

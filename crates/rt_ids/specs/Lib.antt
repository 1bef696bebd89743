-- The definitions of this crate, a file each. Those in Inside are for private contracts alone.
pub mod Lists
pub mod Byte
pub mod Word
pub mod Names
pub mod Naming
pub mod Status
pub mod Event
pub mod Exception
pub mod Limits
pub mod Operation
pub mod Priority
pub mod Choice
pub mod Arrivals
pub mod Inside

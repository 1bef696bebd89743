-- The definitions of this crate, a file each. Those in Inside are for private contracts alone.
pub mod Row
pub mod Object
pub mod History
pub mod Account
pub mod Lines
pub mod Ending
pub mod Inside

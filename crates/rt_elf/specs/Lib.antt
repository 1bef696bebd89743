-- The definitions of this crate, a file each.
pub mod Executable
pub mod Word
pub mod Headers
pub mod Symbols
pub mod Offsets
pub mod File
pub mod Object
pub mod Linking

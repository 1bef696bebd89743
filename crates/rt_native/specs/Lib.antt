-- The definitions of this crate, a file each. Those in Inside are for private contracts alone.
pub mod Target
pub mod Pieces
pub mod Frames
pub mod Sequences
pub mod Service
pub mod Layout
pub mod Program
pub mod Symbols
pub mod Object
pub mod File
pub mod Fitting
pub mod Laws
pub mod Inside

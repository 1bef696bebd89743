-- The definitions of this crate, a file each. Those in Inside are for private contracts alone.
pub mod Parts
pub mod Numbers
pub mod Answers
pub mod Operand
pub mod Table
pub mod Reading
pub mod Refusal
pub mod Inside

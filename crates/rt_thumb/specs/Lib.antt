-- The definitions of this crate, a file each. Those in Inside are for private contracts alone.
pub mod Instruction
pub mod Encoding
pub mod Decoding
pub mod Laws
pub mod Machine
pub mod Arithmetic
pub mod Exceptions
pub mod Effect
pub mod Step
pub mod Inside

-- The lemmas of this crate, a file each. The folders beside them have the proofs of functions, by file and name.
pub mod Splitting
pub mod Digits
pub mod Reading
pub mod Short
pub mod Found
pub mod Numerals
pub mod Decoded
pub mod Spelled
pub mod Told
pub mod Words
pub mod Unbroken
pub mod Free
pub mod Apart
pub mod More

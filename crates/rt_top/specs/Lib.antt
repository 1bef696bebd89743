-- The definitions of this crate, a file each. Those in Inside are for private contracts alone.
pub mod Program
pub mod Words
pub mod Refusal
pub mod SecondRefusal
pub mod Outputs
pub mod Verified
pub mod Paired
pub mod Ends
pub mod Reads
pub mod Kinds
pub mod Rtic
pub mod Defined
pub mod Laws
pub mod Audited
pub mod OneImage
pub mod Inside

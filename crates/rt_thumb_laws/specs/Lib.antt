-- The definitions of this crate, a file each.
pub mod Interrupting
pub mod Taking
pub mod Registers
pub mod Late
pub mod Undisturbed

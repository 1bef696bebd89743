-- What private contracts alone cite.
pub mod Flags
pub mod Saturated
pub mod FrameParts
pub mod Needs
pub mod Waits
pub mod Bounded
pub mod Reached

-- The lemmas of this crate, a file each.
pub mod Words
pub mod Stores
pub mod Returning
pub mod Frames
pub mod Numbers
pub mod Taking
pub mod Keeping
pub mod Late
pub mod Leave
pub mod Beside
pub mod Undisturbed

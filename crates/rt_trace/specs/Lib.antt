-- The definitions of this crate, a file each.
pub mod Padded
pub mod Given
pub mod Label
pub mod Shown
pub mod Words
pub mod Trace
pub mod Text
pub mod Lined
pub mod Row
pub mod Reading
pub mod TraceLines
pub mod Reader
pub mod Laws

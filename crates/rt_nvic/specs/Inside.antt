-- What private contracts and the invariant of the controller speak of.
pub mod First
pub mod Bits
pub mod Keys
pub mod Fields

pub mod Sizes
pub mod Ranges
pub mod Places
pub mod Ends

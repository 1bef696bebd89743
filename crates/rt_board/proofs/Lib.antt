pub mod Telling
pub mod Named
pub mod Refused
pub mod Wrongly

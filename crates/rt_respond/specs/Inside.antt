-- What private contracts alone cite.
pub mod Works
pub mod Holding
pub mod Searching
pub mod Paths
pub mod Places
pub mod Causing

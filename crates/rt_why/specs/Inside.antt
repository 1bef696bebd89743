-- What private contracts say.
pub mod Wanted
pub mod Searches
pub mod Places
pub mod Rows

-- The definitions of this crate, a file each. Those in Inside are for private contracts alone.
pub mod Scope
pub mod Resolving
pub mod Resolved
pub mod Misnamed
pub mod NameRules
pub mod Inside

-- The definitions of this crate, a file each.
pub mod Mark
pub mod Language
pub mod Tokens
pub mod Expression
pub mod Limits
pub mod Spawn
pub mod Simple
pub mod Statement
pub mod Resources
pub mod Options
pub mod Bodies
pub mod Declaration
pub mod Reach
pub mod Text

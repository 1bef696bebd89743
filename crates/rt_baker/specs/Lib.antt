-- The definitions of this crate, a file each.
pub mod Audit
pub mod Judge
pub mod Judging

-- The lemmas of this crate, a file each.
pub mod Sections

-- The lemmas of this crate, a file each.
pub mod Forms
pub mod Short
pub mod Wide
pub mod Branches
pub mod Read
pub mod Of
pub mod ShortOf
pub mod WideOf
pub mod BranchesOf
pub mod Decoded
pub mod Starts
pub mod Examples

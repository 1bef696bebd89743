-- The lemmas of this crate, a file each.
pub mod Bools
pub mod Numbers
pub mod Lists
pub mod Rows
pub mod Runs
pub mod Texts
pub mod Options
pub mod Results
pub mod Membership
pub mod Indices

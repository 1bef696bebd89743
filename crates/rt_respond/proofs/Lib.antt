-- The lemmas of this crate, a file each. The folders beside them have the proofs of functions, by file and name.
pub mod Numbers
pub mod Handlers
mod Dispatchers
mod Levels
pub mod Sends
pub mod Holding
pub mod Blocked
pub mod Transit
pub mod Demand
pub mod Pending
pub mod Tables
pub mod Telling
pub mod Places
pub mod Rows
pub mod Order
pub mod Same
pub mod Shares
pub mod Paths
pub mod Causes
pub mod Judging
pub mod Answering

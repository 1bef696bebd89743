-- The lemmas of this crate, a file each. The folders beside them have the proofs of functions, by file and name.
pub mod Due
pub mod Clauses
pub mod Conducting
pub mod Texts
pub mod CommandWords
mod Deciding
pub mod Ending
pub mod Excluding
pub mod Using
pub mod Giving
pub mod Ran
pub mod Auditing
mod Happening
mod Accounts
mod Audits
mod Writings
mod OneImage

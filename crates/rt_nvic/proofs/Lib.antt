-- The lemmas of this crate, a file each. The folders beside them have the proofs of functions, by file and name.
pub mod Arriving
pub mod Choosing
pub mod Precedence
pub mod Taking
pub mod Tournament
pub mod OneBit
pub mod Fitting
pub mod Pending
pub mod Flags
pub mod Lowest

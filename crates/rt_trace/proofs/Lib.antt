-- The lemmas of this crate, a file each. The folders beside them have the proofs of functions, by file and name.
pub mod LabelsShown
pub mod Values
pub mod Digits
pub mod Told
pub mod LinesRead
pub mod Lengths
pub mod Stepping
pub mod TextsRead

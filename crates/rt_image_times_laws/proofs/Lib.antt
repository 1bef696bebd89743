-- The lemmas of this crate, a file each. The folder beside them has the proof of the law.
pub mod Told
pub mod Asks
pub mod Finding
pub mod Owing
pub mod Unpending
pub mod Busy
pub mod Lowering
pub mod Walk
pub mod Moments
pub mod Living
pub mod Named
pub mod Going
pub mod Responding
pub mod Serving
pub mod Beginning
pub mod Meeting

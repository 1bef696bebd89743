-- The lemmas of this crate, a file each.
pub mod Done
pub mod Asking
pub mod Touching
pub mod Later
pub mod Standing
pub mod Mine
pub mod Left
pub mod LeftDone
pub mod Others
pub mod Writable
pub mod StandingLaws

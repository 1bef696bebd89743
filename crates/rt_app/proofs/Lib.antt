-- The lemmas of this crate, a file each. The folders beside them have the proofs of functions, by file and name.
pub mod Statements
pub mod Named
pub mod Capping
pub mod Unbroken
pub mod SoundExpressions
pub mod Listing
pub mod SoundStatements
pub mod Parts
pub mod Members
pub mod SoundBodies
pub mod SoundSizes
pub mod SoundCeilings
pub mod SoundListings
pub mod Different
pub mod SoundNames
pub mod Numbered
pub mod Rising
pub mod SoundServices
pub mod SoundStack
pub mod Sound
pub mod Laid
pub mod LaidQueues
pub mod LaidTimer
pub mod Counting
pub mod Arranged
pub mod ArmedPlaces
pub mod TimerCeilings
pub mod Representing
pub mod RowParts
mod RowsActions
mod RowsMessages
mod RowsHandles
mod RowsNumbers
mod RowsLayout
mod RowsTimer
pub mod LaidFirst

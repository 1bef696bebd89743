-- What private contracts say.
pub mod Exits
pub mod Points
pub mod Nestings
pub mod Tables
pub mod Visits
pub mod Walks
pub mod Values
pub mod Kept
pub mod Entering
pub mod Touching
pub mod Finds
pub mod Looks
pub mod Greatest

-- What private contracts say.
pub mod Ground
pub mod Surveys
pub mod Aheads
pub mod Gathered
pub mod Whole
pub mod Turns
pub mod Sources
pub mod Holdings
pub mod Shapes
pub mod Countings
pub mod Inners
pub mod Writtens

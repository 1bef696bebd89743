-- What serves the fields of the core, which no caller sees, and the contracts of private functions.
pub mod Parts
pub mod Came
pub mod Enabling
pub mod Execution
pub mod Begun

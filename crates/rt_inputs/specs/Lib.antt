pub mod Inputs
pub mod Shown
pub mod Script
pub mod Going
pub mod Runs
pub mod Laws
pub mod Inside

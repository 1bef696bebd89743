pub mod Object
pub mod History
pub mod Account
pub mod Sides
pub mod Latest
pub mod Inside

pub mod Boxes
pub mod Looking
pub mod Giving
pub mod Histories
pub mod Laws
pub mod Account
pub mod Output
pub mod Inside

pub mod Forwarded
pub mod Course
pub mod Output
pub mod Doing
pub mod Laws
pub mod Inside

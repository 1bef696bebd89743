pub mod Declared
pub mod Told
pub mod Only
pub mod Sources

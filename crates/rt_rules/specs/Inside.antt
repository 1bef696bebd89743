-- What private contracts alone cite.
pub mod First
pub mod Locked
pub mod View
pub mod Tables
pub mod Uses

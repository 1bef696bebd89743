mod Vocabulary
pub mod Routing
pub mod Cutting
pub mod Beforehand
pub mod Accounts
pub mod Coursing
pub mod Posted
pub mod Ordered
pub mod Nothing
pub mod Found

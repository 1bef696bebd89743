-- What the private parts of the top call say of their ends.
pub mod Using
pub mod Replies
pub mod Decides
pub mod Auditor
pub mod Meant
pub mod Started

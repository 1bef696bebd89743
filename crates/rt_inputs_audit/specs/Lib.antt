pub mod Given
pub mod Audit
pub mod Following
pub mod Reading
pub mod Text
pub mod Judging
pub mod Auditor
pub mod Laws

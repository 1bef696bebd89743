-- The definitions of this crate, a file each.
pub mod Tree
pub mod View
pub mod CanonicalExpression
pub mod CanonicalBlock
pub mod CanonicalOptions
pub mod Canonical
pub mod Bare
pub mod PrintableBody
pub mod Printable

-- The definitions of this crate, a file each. Those in Inside are for private contracts alone.
pub mod Bodies
pub mod Form
pub mod ValueCode
pub mod SimpleCode
pub mod BlockCode
pub mod BodyCode
pub mod Inside

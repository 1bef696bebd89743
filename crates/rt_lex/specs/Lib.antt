-- The definitions of this crate, a file each. Those in Inside are for private contracts alone.
pub mod Bytes
pub mod Spelling
pub mod Token
pub mod Front
pub mod Tokens
pub mod Split
pub mod Gap
pub mod Number
pub mod Place
pub mod FrontView
pub mod Inside

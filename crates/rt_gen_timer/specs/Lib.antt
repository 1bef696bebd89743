-- The definitions of this crate, a file each. Those in Inside are for private contracts alone.
pub mod TimerLines
pub mod TimerCode
pub mod TimerCalls
pub mod Inside

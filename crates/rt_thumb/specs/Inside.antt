-- Definitions for private contracts alone.
pub mod Reading

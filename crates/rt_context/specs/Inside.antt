-- What serves the fields of the frames, which no caller sees.
pub mod Parts

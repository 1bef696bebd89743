-- What private contracts alone speak of: how a listing is read, line by line.
pub mod Operand
pub mod Noting
pub mod Rows
pub mod Taking
pub mod Reader

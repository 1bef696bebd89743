mod Contexts
mod Arriving
mod Tables
mod Calls
mod Calling
pub mod Picking
mod Numbers
mod Entry
mod Enabled
mod Renewing
mod RowParts
mod Rows
mod RowsLocks
mod RowsCalls
pub mod Keeping
pub mod Happening
pub mod Reaching
pub mod Storing
pub mod Loading
pub mod Showing
pub mod Room
mod Leading
pub mod Standing

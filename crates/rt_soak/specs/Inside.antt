-- How runs are shared out and counted together; no public contract cites it.
pub mod Totals
pub mod Sharing

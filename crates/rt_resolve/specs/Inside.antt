-- What the contracts of private functions cite.
pub mod Bindings
pub mod NamesView

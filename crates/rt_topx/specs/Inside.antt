-- What the private parts of the top call say of their ends.
pub mod Started
pub mod Beside
pub mod Making
pub mod Counting

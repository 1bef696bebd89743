-- What the rule of the words, the views of seats and the invariants of the lines speak of.
pub mod Seats
pub mod Rule
pub mod Steps
pub mod Fields

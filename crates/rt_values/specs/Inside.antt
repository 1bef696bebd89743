-- What the rule of a mailbox, the views of seats and the invariants of the sides speak of.
pub mod Rule
pub mod Steps
pub mod Fields

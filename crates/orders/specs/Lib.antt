-- Orders: cases of the order of answers.
pub mod Orders

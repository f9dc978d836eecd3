pub mod Lengths
pub mod Place
pub mod Months
pub mod Direct
pub mod Dates
pub mod Answers
pub mod Times
pub mod Digits

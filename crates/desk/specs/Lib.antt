-- What C gets. Numbers: an answer and what it carries as one number. Given: rows of numbers. Tables: switching tables.
pub mod Numbers
pub mod Given
pub mod Tables

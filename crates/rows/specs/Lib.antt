-- Rows: a recorder as a row of numbers, and a recorder or a header out of one.
pub mod Rows

-- Rows: an element, or 0.
pub mod Rows

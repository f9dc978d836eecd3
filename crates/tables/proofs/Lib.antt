-- Worked: the rows, computed.
pub mod Worked

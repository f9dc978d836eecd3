-- Starred: the cases, computed.
pub mod Starred

-- Definitions that more than one crate's contracts cite.
pub mod Checks
pub mod Tests
pub mod Each
pub mod Table
pub mod Bits

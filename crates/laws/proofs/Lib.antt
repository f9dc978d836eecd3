-- Laws that more than one crate cites.
pub mod Split
pub mod Bools
pub mod Checks
pub mod Tests
pub mod Loop
pub mod Table
pub mod Ring
pub mod Bits
pub mod Rows
pub mod Lists
pub mod Round
pub mod Exits

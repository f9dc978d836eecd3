-- Reading out. Refusals: where it is refused, by what the reader would do.
pub mod Read
pub mod Refusals

-- What the loops that are timed do.
pub mod Timed

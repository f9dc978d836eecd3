-- Loads: of the outstation, reckoned by hand.
pub mod Loads

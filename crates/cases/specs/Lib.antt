-- Cases: of the recorder, reckoned by hand.
pub mod Cases
pub mod Adjusts

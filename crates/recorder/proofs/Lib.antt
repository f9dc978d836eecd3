-- Laws of the recorder's definitions, and of its code's needs.
pub mod Ranges
pub mod Answers
pub mod Boundaries
pub mod Effects
pub mod Setting
pub mod Kept
pub mod Adjusting

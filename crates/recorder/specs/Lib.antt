-- The recorder beside its store: ranges, boundaries, what each event does, what it is refused for, set-up.
pub mod Recorder
pub mod Range
pub mod Boundary
pub mod Effect
pub mod Cause
pub mod Answer
pub mod Step
pub mod SetUp
pub mod Stored
pub mod Needs
pub mod Adjusted

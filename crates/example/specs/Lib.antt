-- Example: one life worked through.
pub mod Example

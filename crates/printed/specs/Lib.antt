-- What is written, as bytes.
pub mod Lines

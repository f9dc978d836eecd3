-- Bytes: cases of a block's bytes.
pub mod Bytes

-- Desk: the ledger in bytes as a desk of the theory.
pub mod Desk

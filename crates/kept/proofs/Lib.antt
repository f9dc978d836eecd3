-- Taken: blocks that a desk takes. Laws: the ledger is a desk. Opened: demand 3 from opening on. Stays: one filing. Meter: two ledgers of one meter.
pub mod Taken
pub mod Laws
pub mod Opened
pub mod Stays
pub mod Meter

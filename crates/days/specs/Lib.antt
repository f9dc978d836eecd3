-- Day: what is held of a day. Agree: two holdings of one day. Parts: where they differ. View: what a block says. Desk: a ledger in whatever memory. Told: demand 3. Energy: advances against energy.
pub mod Day
pub mod Agree
pub mod Parts
pub mod View
pub mod Desk
pub mod Told
pub mod Energy

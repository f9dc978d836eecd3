-- The listing as text.
pub mod Listing

-- The lines of the listing, piece after piece, and a text that has no room.
pub mod Laws

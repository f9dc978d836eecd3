-- Classes and their lengths, the ring of rooms, the store at set-up.
pub mod Class
pub mod Store
pub mod Begun

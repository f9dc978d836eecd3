-- The recorder's fields in their groups: the present, energy, demand; and by how many seconds the present is adjusted.
pub mod Present
pub mod Shift
pub mod Energy
pub mod Demand

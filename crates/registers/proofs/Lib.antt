-- Laws of the registers.
pub mod Laws

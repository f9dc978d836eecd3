-- Laws: what is taken and dropped past the end.
pub mod Laws

-- Laws: what each return says.
pub mod Laws

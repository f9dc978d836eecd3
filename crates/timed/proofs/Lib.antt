-- Laws: what each loop that is timed keeps, and what it has done at its end.
pub mod Laws

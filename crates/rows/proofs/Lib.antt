-- Laws: what each return and each turn says. Again: a recorder, or a header, out of its row is the one that was written.
pub mod Laws
pub mod Again

pub mod Opens
pub mod Rows
pub mod Orders

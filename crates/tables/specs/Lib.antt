-- Cases: tables reckoned by hand, their rates and the answers to loads of them.
pub mod Cases

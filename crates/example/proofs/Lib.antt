pub mod Computed
pub mod Worked

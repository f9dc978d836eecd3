-- Table: a switching table as it lies in bytes. Judge: what a load is refused for. Rate: the rate at a second. Scans: what the code keeps while it looks. Saved: what an accepted table says, whatever order it was saved in.
pub mod Table
pub mod Judge
pub mod Rate
pub mod Scans
pub mod Saved

-- Steps: what a step leaves of the active rate. Laws, Setting: what happens and set-up in the form that the proofs of the code look for. Runs: runs of the recorder's events. Agreeing: the active rate is the table's. Counted: each register has its
-- rate's energy. Adjusting: the table's rate after an Adjust. Lives: all of it from set-up on.
pub mod Steps
pub mod Laws
pub mod Setting
pub mod Runs
pub mod Agreeing
pub mod Counted
pub mod Adjusting
pub mod Lives

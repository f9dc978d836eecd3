-- Outstation: a recorder whose rate a switching table may choose, and what happens to it. SetUp: how it begins. Parts: what the code's parts answer, by value. Adjusted: what an Adjust does to it. Lives: what is proved of its runs.
pub mod Outstation
pub mod SetUp
pub mod Parts
pub mod Adjusted
pub mod Lives

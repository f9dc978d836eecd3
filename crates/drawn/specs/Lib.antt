-- Week: the text of a week. Asked: what is answered, and what the program prints. Fits: how long that is at most.
pub mod Week
pub mod Asked
pub mod Fits

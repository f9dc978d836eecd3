-- Days, Lengths, Written: the text's lines. Answered: what is answered, and the program's input. Fits: how long a text is at most.
pub mod Days
pub mod Lengths
pub mod Written
pub mod Answered
pub mod Fits

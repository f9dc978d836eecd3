-- Words: lines and words found. Numbers: numbers, days and times read. Digits: hexadecimal.
pub mod Words
pub mod Numbers
pub mod Digits

-- A script's text: its words, the numbers, days and times that they name, and bytes in hexadecimal.
pub mod Words
pub mod Numbers
pub mod Hex

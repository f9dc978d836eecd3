-- Dates and days, seconds and half-hours, and both as decimal digits; and the year that the month's formula is reckoned in.
pub mod Calendar
pub mod Shift
pub mod Clock
pub mod Digits

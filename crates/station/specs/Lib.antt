-- Station: an outstation whose recorder is a row of numbers.
pub mod Station

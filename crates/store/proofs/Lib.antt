-- Laws of the store that the proofs here and above cite. Spans: half-hours of one day passed over together. Late: half-hours whose places later ones take.
-- Complete: a class's rooms hold its complete days.
pub mod Laws
pub mod Spans
pub mod Late
pub mod Complete

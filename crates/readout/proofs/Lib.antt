-- What a read answers and leaves. Refusals: exactly where it is refused.
pub mod Laws
pub mod Refusals

-- Written: what each return and each turn says of an output.
pub mod Written

pub mod Digits
pub mod Counts
pub mod Guesses

mod Placing
pub mod Decoding
pub mod Encoding
mod Rowing

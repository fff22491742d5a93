pub mod Causes
pub mod Squaring
pub mod Differences
pub mod Newton
pub mod Halving
pub mod Signed

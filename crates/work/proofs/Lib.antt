mod Along
mod Working
pub mod Waiting

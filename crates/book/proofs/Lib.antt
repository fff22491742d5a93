mod Waiting
mod Files
pub mod Lookups
mod Results
mod Refusals

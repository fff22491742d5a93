pub mod Places
pub mod Stretches
pub mod Walks
pub mod Counting
pub mod Calls
pub mod CountingOn
pub mod Finishing
pub mod Reached

pub mod Refusals
pub mod Made
pub mod Causes
pub mod Words
pub mod Sides

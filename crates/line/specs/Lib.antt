pub mod Output
pub mod Lines

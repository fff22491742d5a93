pub mod Fitness
pub mod Chain
pub mod Entering
pub mod Tables
pub mod Numbers
pub mod Faults
pub mod Filling
pub mod Walk

pub mod Listings
pub mod Worked
pub mod Books

pub mod Listings
pub mod Printing

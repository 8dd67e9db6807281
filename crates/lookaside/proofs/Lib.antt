pub mod Held
pub mod Tables

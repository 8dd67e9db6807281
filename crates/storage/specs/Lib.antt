pub mod Keyed
pub mod Layer
pub mod Prefixes
pub mod Records
pub mod Views

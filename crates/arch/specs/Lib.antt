pub mod Bits
pub mod Conditions
pub mod Order
pub mod Walks

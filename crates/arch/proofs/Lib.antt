pub mod Walks
pub mod Ordered
pub mod ConditionCodes

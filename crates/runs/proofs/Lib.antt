pub mod Far
pub mod Loans
pub mod Stands
pub mod Turned

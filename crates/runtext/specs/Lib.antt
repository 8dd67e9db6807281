pub mod Lines
pub mod Numerals
pub mod Passes
pub mod Reading
pub mod Runs
pub mod Verdicts
pub mod Writing

pub mod Checked
pub mod Levels
pub mod InOrder
pub mod Few
pub mod AccessLayouts
pub mod PageLayouts

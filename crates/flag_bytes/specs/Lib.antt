pub mod Flags
pub mod Narrow
pub mod Theorems

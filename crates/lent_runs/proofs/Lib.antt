pub mod Ring
pub mod Tree
pub mod Table
pub mod Theorems

pub mod Lines
pub mod Answers
pub mod Output
pub mod Pieces
pub mod Examples
pub mod Theorems

pub mod Kept
pub mod Pieces
pub mod Ends
pub mod Theorems

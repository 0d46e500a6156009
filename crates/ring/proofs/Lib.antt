pub mod Nodes
pub mod Tests
pub mod Parts
pub mod Moves
pub mod Flags
pub mod Handed

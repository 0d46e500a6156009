pub mod Nodes
pub mod Opens
pub mod Seen
pub mod Meaning
pub mod Flags
pub mod Once

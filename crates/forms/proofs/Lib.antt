pub mod Lines
pub mod Arguments
pub mod Reading
pub mod Shapes
pub mod Steps
pub mod Examples

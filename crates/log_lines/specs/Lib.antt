pub mod Formless
pub mod Lines
pub mod Openings
pub mod Requests
pub mod Stages
pub mod Starts

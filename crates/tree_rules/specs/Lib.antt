pub mod State
pub mod Rules
pub mod Soundness
pub mod Answers
pub mod Start
pub mod Termination
pub mod Theorems
pub mod Request

pub mod Marks
pub mod Soundness
pub mod Accepted
pub mod Answers
pub mod Keeps
pub mod Numbers
pub mod Theorems
pub mod Kept

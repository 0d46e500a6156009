pub mod Counts
pub mod WholeRun
pub mod Agreement

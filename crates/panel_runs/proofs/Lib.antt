pub mod Trace
pub mod Legs
pub mod Next
pub mod Marks
pub mod Ends
pub mod WholeRun
pub mod Agreed
pub mod Agreement

pub mod Counts
pub mod WholeRun
pub mod DijkstraScholten
pub mod View
pub mod Agreement
pub mod Requests

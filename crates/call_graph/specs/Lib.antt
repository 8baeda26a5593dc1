pub mod Referring
pub mod Earliest
pub mod Calling
pub mod Adding
pub mod CallGraphs
pub mod Grouping

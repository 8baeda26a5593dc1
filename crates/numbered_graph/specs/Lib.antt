pub mod Graphs
pub mod Peeling
pub mod Turning
pub mod Searching
pub mod Deepness

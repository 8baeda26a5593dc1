pub mod OnTrees
pub mod Rules
pub mod SmallPrograms
pub mod Writing

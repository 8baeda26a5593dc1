pub mod Whole
pub mod Powers
pub mod Ranges
pub mod Reciprocals
pub mod Remainders
pub mod Arguments
pub mod Division

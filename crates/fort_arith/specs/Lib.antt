pub mod Range
pub mod Power
pub mod Operators
pub mod Intrinsics
pub mod Laws

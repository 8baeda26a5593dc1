pub mod Times
pub mod Ways
pub mod Starting
pub mod Turned
pub mod Peeling
pub mod Deeper
pub mod Searching
pub mod Backwards

pub mod Levels
pub mod Subs
pub mod Gathers
pub mod Differs

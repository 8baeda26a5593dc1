pub mod Rows
pub mod Joined
pub mod Lines
pub mod Machine
pub mod Places
pub mod Going
pub mod Shown
pub mod Examples

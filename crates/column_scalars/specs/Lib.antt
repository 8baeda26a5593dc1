pub mod Scalars
pub mod Model
pub mod Widened
pub mod Standing

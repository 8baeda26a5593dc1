pub mod Acts
pub mod Behind

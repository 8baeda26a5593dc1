pub mod Regrouped
pub mod Undirected
pub mod Calling
pub mod Translated
pub mod Groups
pub mod PlainArms

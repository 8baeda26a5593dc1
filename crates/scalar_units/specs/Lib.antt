pub mod Units
pub mod Unbuilt
pub mod Scalars

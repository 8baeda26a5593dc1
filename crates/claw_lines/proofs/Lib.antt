pub mod Texts
pub mod Listing
pub mod Fronts
pub mod Apart
pub mod PartLaws
pub mod Dimensions
pub mod Asking

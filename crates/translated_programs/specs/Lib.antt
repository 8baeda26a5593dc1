pub mod Directed
pub mod NotBuilt
pub mod Translated
pub mod UnitLaws

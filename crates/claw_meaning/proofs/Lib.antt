pub mod PlainTrees
pub mod RunLaws

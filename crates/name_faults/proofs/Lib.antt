pub mod InFiles
pub mod LoopsAre
pub mod Parts
mod AllNoted

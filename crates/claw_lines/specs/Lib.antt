pub mod Words
pub mod Items
pub mod Forms
pub mod Steps
pub mod Answer
pub mod Examples

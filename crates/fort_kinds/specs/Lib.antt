pub mod OneSub
pub mod Gathering
pub mod KindsSeen
pub mod Sites

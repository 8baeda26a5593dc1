mod Ordered
mod Halving

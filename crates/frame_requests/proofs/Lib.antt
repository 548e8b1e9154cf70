mod Filled
mod Pairs

mod Padding
mod Filled
mod Weights
mod Same

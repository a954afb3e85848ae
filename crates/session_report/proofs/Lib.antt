mod Folds
mod Fronts
mod Hexes
mod Ways
pub mod Worlds

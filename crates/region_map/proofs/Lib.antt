mod Changes
mod Spots
mod Spread

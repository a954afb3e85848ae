mod Stays
mod Suited

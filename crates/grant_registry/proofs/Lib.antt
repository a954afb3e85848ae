pub mod Entered
pub mod Named
pub mod Placed
pub mod Pushed
pub mod Sums

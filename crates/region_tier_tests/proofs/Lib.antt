pub mod OneMaker
pub mod Pairs
pub mod Orders
pub mod SeenBoth

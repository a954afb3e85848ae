mod Entered
mod Parts

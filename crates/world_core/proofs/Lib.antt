mod Offered
mod Counting
pub mod Childless
pub mod Children
pub mod Looking
pub mod Marks
pub mod Moves
pub mod Places
pub mod Reasons
pub mod Resting
pub mod Serving
pub mod Standing
pub mod Steps
pub mod Tallies
pub mod Turning
pub mod Whys
pub mod Starts
pub mod Finding
pub mod Allotted
pub mod Awaited
pub mod Entering
pub mod Takes
pub mod Ends
pub mod Finishes
pub mod Through
mod Readers
mod KeptBack
pub mod RegionAsks
mod Settles
mod Blocked
mod Requests
mod TwoWorlds
mod Traces
pub mod Askers
pub mod TableLeft
pub mod Laid
pub mod Seats
pub mod ServedAsks
pub mod OnePlace
pub mod Resuming
pub mod AskAwaited

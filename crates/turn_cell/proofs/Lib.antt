pub mod Frames
pub mod Lying
pub mod Places
pub mod Own
pub mod TurnSteps
pub mod OpenSteps
pub mod NoteSteps
pub mod CloseSteps

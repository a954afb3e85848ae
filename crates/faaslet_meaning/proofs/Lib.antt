pub mod OneCommand
pub mod ExampleRuns
mod PlainRuns
pub mod Written
mod TypedBodies
pub mod Sound
pub mod SoundCalls
pub mod SoundMemory
pub mod SoundSteps
pub mod Suits
pub mod SoundServe
pub mod SoundModules
pub mod Appended
pub mod WordBytes
pub mod StepWalk
pub mod Quiet
pub mod SoundFresh
pub mod SoundEntry
pub mod NeverStuck
mod Vectors
mod HostCallRuns
mod SharedRuns
mod MachineRuns
mod LoadVectors
pub mod IntegerResults
mod Refusals
mod Seventeenth
mod EdgeRuns
mod Lines
pub mod Measures
pub mod Weight
pub mod Pieces
pub mod Tiling
pub mod Asking
pub mod Bounded
mod Steps
pub mod Counted
pub mod Came
pub mod One
pub mod Ways
pub mod CallParts
pub mod CallMemory
pub mod CallActs
pub mod CallKept
pub mod CallAsks
pub mod CallFresh
pub mod Readers
pub mod NumberReaders
pub mod VecReaders
pub mod InstrReaders
pub mod Flats
pub mod Trees
pub mod Expressions
pub mod ModuleReaders
pub mod TypeReaders
pub mod BodyReaders
pub mod OneModule
pub mod OneAnswer
mod Spelled
pub mod Histories
pub mod Halves
pub mod Spellings
pub mod Chains
mod TableRuns

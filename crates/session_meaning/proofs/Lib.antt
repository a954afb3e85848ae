pub mod Kept
pub mod Regions
pub mod Renumbered
pub mod Tables
pub mod WorldParts
pub mod KeptAsks
pub mod OneStep
pub mod OtherSteps
pub mod Whole
pub mod FoldedCut
pub mod Enabled
pub mod Invariants
pub mod WorldInvariants
pub mod TwoWorlds
pub mod CutSteps
pub mod Paths
pub mod TableKeeps
pub mod Later
pub mod Family
pub mod DistinctCalls
pub mod ChildCounts
pub mod PathTexts
pub mod NamedPlans
pub mod Granted
pub mod GrantedAsks
pub mod GrantedCalls
pub mod AsksGranted
pub mod WorldEnds
pub mod NamedWorlds
pub mod KeptNames
pub mod NumbersStand
pub mod Obstacles
pub mod CutReports
pub mod TableMakers
pub mod PartMakers
pub mod TableCuts
pub mod HistoryCuts
pub mod ExampleWorlds
pub mod Asked
pub mod LegalEntries
pub mod Worlds
pub mod Rests
pub mod Goes
pub mod OwnHistory
pub mod Objects
pub mod RecordsKept
pub mod OneEntry
pub mod TableEntries
pub mod OneQuestion
pub mod CallsAlike
pub mod CallEvents
pub mod CallsRan
pub mod LockSteps
pub mod CallLocks
pub mod HeldLocks
pub mod ChildrenThere
pub mod ReasonChildren
pub mod WorldSections
pub mod OwnSections
pub mod Schedules
pub mod Orders
pub mod BenchParts
pub mod OwnUnlocks
pub mod RanSections
pub mod RanTables
pub mod RanSubmits
pub mod RanParts
pub mod TraceWeights
pub mod TraceEnds
mod WorldRuns
mod TraceRuns
mod OwnEntries
mod RanSession
mod TrailRuns
pub mod Entries
pub mod OneSession
pub mod KeptLimits
pub mod FilePlans
pub mod LoadPlans
mod ExampleFiles
mod CutRows
pub mod Taken
mod RefusalRows
mod LoadRuns
mod DeepRuns
pub mod WellFits
pub mod OpenCalls
pub mod KeptBack

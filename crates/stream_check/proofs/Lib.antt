mod Fine
mod FoldSteps
mod NextStates
mod Periods

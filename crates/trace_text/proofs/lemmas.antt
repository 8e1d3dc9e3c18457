pub mod CallPlaces
pub mod CallRuns
pub mod OneDictionary
pub mod OwnCalls
pub mod RecordingLaws
pub mod RunSteps
pub mod ToldApart
pub mod ClockLines

pub mod Beside
pub mod PlacedBlocks
mod Turns
mod Listing
mod Calm
pub mod Passed
pub mod MovedActs
pub mod Entering
pub mod PerCandidate
pub mod SiteLaw
pub mod CandidateCalls
pub mod MoreRoom
mod Fitting
mod Growing
mod WithinLimits
mod Cutting
mod Placing

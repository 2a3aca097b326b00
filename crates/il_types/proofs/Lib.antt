pub mod Largest
pub mod FirstLemmas
pub mod OneMore
pub mod CoveringLemmas
pub mod FaultLemmas
pub mod TallyLemmas
pub mod ArgumentLemmas
pub mod PlaceTable

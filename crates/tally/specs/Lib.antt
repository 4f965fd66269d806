pub mod TallyKinds
pub mod TallyStates
pub mod TallyCalls
pub mod TallySound
pub mod Tallies
pub mod TallyMeaning

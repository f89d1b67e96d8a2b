pub mod DivisionLemmas
pub mod SignedLemmas
pub mod StepLemmas
pub mod TakenLemmas

pub mod FitLemmas
pub mod ParityLemmas
pub mod CutLemmas
pub mod DistanceLemmas
pub mod PartLemmas

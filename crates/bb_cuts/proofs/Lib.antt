pub mod RowLaws
pub mod Cones
pub mod CoverLaws
pub mod Standing
pub mod Telling
pub mod CutModels
pub mod Words

pub mod ClauseLaws
pub mod GatesModels
pub mod Inputs
pub mod Joined
pub mod Reading

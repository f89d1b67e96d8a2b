pub mod Askings
pub mod Cases
pub mod Hearing
pub mod Steps
pub mod Texts
pub mod Loading
pub use Rattle.rvf_load.specs.Loads

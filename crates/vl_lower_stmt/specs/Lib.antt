pub mod Layout
pub mod Executes
pub mod StepsArms
pub mod Located
pub mod ExecuteArms
pub mod Zeros
pub mod First

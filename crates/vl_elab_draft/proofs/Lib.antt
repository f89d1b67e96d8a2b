pub mod FullNames
pub mod Inner
pub mod Tables
pub mod Laid
pub mod Filling
pub mod Settling
pub mod Apart
pub mod Drawing

pub mod Masks
pub mod Rising
pub mod Turning

mod Distinct
mod Numbered
pub mod Adding
mod Filled
pub mod OpenBlocks
mod Entered
mod Joined
mod Written
pub mod StepParts
mod Seens
mod Places
mod Depths
mod Given
mod Items
mod Opening
mod Unfolding
mod Values
mod Drawing

pub mod SimpleTrees
pub mod Examples
pub mod SimpleTexts

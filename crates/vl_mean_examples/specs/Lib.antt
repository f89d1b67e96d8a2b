pub mod Examples
pub mod DesignExamples
pub mod FlatExamples
pub mod RefusedDesigns

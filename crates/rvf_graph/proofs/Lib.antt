pub mod BitLines
pub mod GraphLaws
pub mod Numbered
pub mod FramesGraph
pub mod OwnGraph
pub mod Telling
pub mod SourceGraphs

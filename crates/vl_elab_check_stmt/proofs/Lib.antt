pub mod Cases
pub mod Statements
pub mod TargetParts
pub mod JoinedTargets

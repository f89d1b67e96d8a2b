pub mod Judged
pub mod JudgeParts
pub mod Lines
pub mod NoteLinesParts
pub mod Words
pub mod Sources
pub mod Inducted
pub mod InductParts

pub mod ItemParts
pub mod TurnParts

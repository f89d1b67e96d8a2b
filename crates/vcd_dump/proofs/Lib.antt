pub mod DigitsLemmas
pub mod WriteLemmas

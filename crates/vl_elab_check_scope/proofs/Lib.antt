pub mod LabelLemmas
pub mod NameLemmas
pub mod Known
pub mod Behind

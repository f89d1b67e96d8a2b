pub mod ChannelLemmas
pub mod NodeLemmas
pub mod TestLemmas

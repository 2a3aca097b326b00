pub mod SinkLemmas
pub mod LineLemmas

pub mod PairLemmas
pub mod KeyLemmas
pub mod TieLemmas
pub mod GraphLemmas
pub mod SoundRepositoryLemmas
pub mod LayerLemmas
pub mod NumberLemmas

pub mod ExchangeLemmas
pub mod ClosingTexts
pub mod LongLines
pub mod CommandLemmas
pub mod SessionLemmas
